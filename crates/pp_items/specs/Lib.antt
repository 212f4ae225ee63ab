pub mod View
pub mod Walk
pub mod Reading
pub mod Cut
pub mod Units
pub mod Literals
