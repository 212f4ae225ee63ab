pub mod Unread
pub mod ReadingView
pub mod Work
pub mod Fits
