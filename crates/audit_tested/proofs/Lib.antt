pub mod Chain
pub mod Joining
pub mod Observed
pub mod Booked
