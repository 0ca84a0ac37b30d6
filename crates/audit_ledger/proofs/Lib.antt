pub mod Targets
pub mod Booking
pub mod Growing
pub mod Counting
pub mod Balancing
