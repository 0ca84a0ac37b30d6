pub mod Shifting
pub mod Turning
