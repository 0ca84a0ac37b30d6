pub mod Seeing
pub mod Observed
