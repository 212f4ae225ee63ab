pub mod Dump
pub mod Entries
pub mod Lines
pub mod Reading
pub mod Texts
