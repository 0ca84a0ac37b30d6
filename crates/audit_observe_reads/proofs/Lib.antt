pub mod Second
pub mod Filled
pub mod Fragment
