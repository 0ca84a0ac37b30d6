pub mod Storing
pub mod Placed
mod Filling
