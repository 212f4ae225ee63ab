pub mod Stretches
pub mod Rows
pub mod OpenGaps
pub mod InputColumns
pub mod Counted
pub mod Fixed
