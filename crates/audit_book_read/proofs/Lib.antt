pub mod Counts
pub mod Room
