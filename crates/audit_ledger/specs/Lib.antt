pub mod Booking
pub mod Balance
pub mod Counting
