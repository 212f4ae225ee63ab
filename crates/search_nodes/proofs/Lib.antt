pub mod NodeChains
mod Grouping
mod ListedNodes
