pub mod Keyed
pub mod Tallying
pub mod Putting
