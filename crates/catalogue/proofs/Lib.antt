pub mod Checks
pub mod Filtering
pub mod Mapped
pub mod Refusals
