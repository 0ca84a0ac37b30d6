pub mod Bytes
pub mod Turning
