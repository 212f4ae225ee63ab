mod Digits
mod Builders
mod FormLemmas
mod LineLemmas
pub mod Examples
mod Joined
