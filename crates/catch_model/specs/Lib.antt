pub mod Job
pub mod Feeding
pub mod Example
