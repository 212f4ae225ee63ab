pub mod Characters
pub mod Alone
pub mod Coming
pub mod Inside
