pub mod Viewed
pub mod Part
pub mod Items
