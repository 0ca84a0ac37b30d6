pub mod Skipping
pub mod Siding
