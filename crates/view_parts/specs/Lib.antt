pub mod Known
pub mod Lanes
pub mod Notes
pub mod Parts
pub mod Quiet
pub mod Rows
pub mod Told
