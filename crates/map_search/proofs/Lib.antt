pub mod Searching
pub mod Listed
pub mod Parts
