pub mod Going
pub mod Scanning
pub mod Visiting
