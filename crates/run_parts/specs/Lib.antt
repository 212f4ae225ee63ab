pub mod Bounds
pub mod Windows
pub mod KeptGaps
pub mod Read
pub mod Runs
