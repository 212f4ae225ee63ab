pub mod Comments
pub mod Viewed
pub mod Inside
pub mod Lines
