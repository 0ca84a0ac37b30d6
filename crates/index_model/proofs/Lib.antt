pub mod Sequencing
pub mod Sorting
pub mod Indexing
pub mod Testing
pub mod Hits
