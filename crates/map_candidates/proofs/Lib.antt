pub mod Candidates
pub mod Waiting
pub mod Fewest
