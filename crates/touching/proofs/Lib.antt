mod Ends
pub mod PlainBytes
mod Firsts
pub mod Marks
pub mod NoMark
pub mod Questions
mod Words
pub mod Cuts
mod Nearer
pub mod TakenAway
pub mod Edges
mod EdgeTables
