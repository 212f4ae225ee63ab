pub mod Results
mod SkippedRows
pub mod Counts
mod Causes
pub mod Statuses
pub mod StyleOrder
pub mod OneChoice
