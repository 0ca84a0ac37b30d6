pub mod Parting
pub mod Filling
pub mod Joining
pub mod Placing
pub mod Keyed
pub mod Starts
pub mod PartByPart
pub mod RankByRank
