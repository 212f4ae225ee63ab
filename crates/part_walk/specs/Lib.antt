pub mod Brackets
pub mod Places
pub mod Reading
pub mod Steps
pub mod Walk
