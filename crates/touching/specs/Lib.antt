pub mod Spelling
pub mod TakingAway
pub mod Near
pub mod Edges
pub mod Inside
