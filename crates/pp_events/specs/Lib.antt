pub mod View
pub mod MachineView
pub mod Collected
pub mod Pasted
