pub mod Mapping
pub mod Matching
pub mod Laws
pub mod Board
