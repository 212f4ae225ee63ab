pub mod Runs
pub mod Arguments
pub mod Compared
pub mod Pastes
