pub mod Outcome
pub mod Vertices
pub mod Ways
pub mod Jumps
pub mod Progress
pub mod Thrift
pub mod Passing
pub mod Descent
