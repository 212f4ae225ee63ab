pub mod Indents
pub mod Starts
