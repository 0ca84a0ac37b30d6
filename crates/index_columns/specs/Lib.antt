pub mod Posting
pub mod Sorted
pub mod Exchange
