pub mod Failed
pub mod Heads
pub mod PlainTokens
pub mod Waits
mod BetweenDeclarations
