pub mod Digest
pub mod Frames
pub mod Chains
pub mod Store
