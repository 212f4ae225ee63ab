pub mod CodeTokens
pub mod Lefts
pub mod StillTokens
