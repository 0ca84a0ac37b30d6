pub mod Entries
pub mod Searched
