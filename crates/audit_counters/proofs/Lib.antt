pub mod Choosing
pub mod Adding
pub mod Room
