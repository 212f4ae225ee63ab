pub mod Spaces
pub mod KeepsApart
pub mod Told
pub mod Breaks
pub mod Indents
