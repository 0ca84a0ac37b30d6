pub mod Lining
pub mod Examples
