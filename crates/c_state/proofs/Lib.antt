pub mod Testing
pub mod Writing
pub mod Again
