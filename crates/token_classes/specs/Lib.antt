pub mod Classes
pub mod Words
pub mod Kept
pub mod Partner
pub mod Partners
pub mod Inside
pub mod Lanes
