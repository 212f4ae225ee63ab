pub mod Forms
pub mod Tree
pub mod Stack
pub mod Lines
pub mod Wrapping
pub mod Colons
pub mod Tokens
