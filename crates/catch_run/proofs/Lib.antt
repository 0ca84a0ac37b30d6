pub mod Passing
pub mod Running
pub mod Stepping
