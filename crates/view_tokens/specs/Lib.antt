pub mod Tokens
pub mod Row
pub mod Inside
