pub mod Command
pub mod Budget
pub mod Generate
pub mod Lines
pub mod Said
pub mod Generated
pub mod Kinds
pub mod Parts
