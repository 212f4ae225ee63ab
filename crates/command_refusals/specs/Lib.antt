pub mod Notes
pub mod Counts
pub mod InForce
pub mod Order
pub mod Rows
pub mod Words
