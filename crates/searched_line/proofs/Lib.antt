mod AheadSums
mod AheadSteps
mod AheadTable
pub mod AheadBound
pub mod LineSteps
mod Ruling
mod Reaches
pub mod Narrow
