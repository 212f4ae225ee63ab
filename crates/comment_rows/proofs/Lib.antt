pub mod NextRows
pub mod CommentLists
pub mod BehindTokens
pub mod Lined
pub mod Others
