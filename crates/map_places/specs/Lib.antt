pub mod Place
pub mod Agreeing
