pub mod Lists
pub mod Sharing
pub mod SameFrames
pub mod Tests
pub mod Tops
pub mod Edits
pub mod Chaining
