pub mod Places
pub mod InputColumns
pub mod Staying
pub mod AllMade
pub mod AllSound
pub mod SoundStart
pub mod Tells
pub mod LeftOpen
