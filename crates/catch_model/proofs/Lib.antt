pub mod Shrinking
pub mod Steps
pub mod Sizes
pub mod Example
