pub mod Lists
pub mod Spellings
pub mod ItemClasses
pub mod Told
