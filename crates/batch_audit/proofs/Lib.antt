pub mod Fits
pub mod Runs
pub mod Opened
