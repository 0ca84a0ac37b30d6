pub mod Bounds
pub mod Answer
