pub mod Comments
pub mod Columns
