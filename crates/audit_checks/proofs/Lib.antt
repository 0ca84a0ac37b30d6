pub mod Opening
pub mod Ranked
