pub mod Listing
pub mod Grouping
pub mod Counting
pub mod Targeting
pub mod Bounding
