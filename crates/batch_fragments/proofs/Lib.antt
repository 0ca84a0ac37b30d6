pub mod Mates
pub mod Shares
pub mod Calls
pub mod Listing
