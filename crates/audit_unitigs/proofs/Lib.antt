pub mod Comparing
pub mod Writing
pub mod Applying
