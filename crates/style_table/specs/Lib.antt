pub mod Range
pub mod Words
pub mod Keys
pub mod Values
pub mod Named
