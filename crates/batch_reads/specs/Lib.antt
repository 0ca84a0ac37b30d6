pub mod Shares
pub mod Approach
