pub mod Nodes
pub mod Groups
