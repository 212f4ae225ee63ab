pub mod Acts
pub mod Walks
pub mod Works
pub mod Results
