pub mod Searched
pub mod Successors
pub mod Ahead
pub mod Rules
pub mod Saturation
