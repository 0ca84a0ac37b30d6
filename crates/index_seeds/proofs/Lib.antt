pub mod Windows
pub mod Keying
pub mod Capitals
pub mod Storing
