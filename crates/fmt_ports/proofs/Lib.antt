pub mod Parts
mod Taken
mod Behind
mod Compared
