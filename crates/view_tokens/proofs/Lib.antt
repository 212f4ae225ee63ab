pub mod Items
pub mod Told
pub mod Pushed
pub mod Rows
pub mod Starts
