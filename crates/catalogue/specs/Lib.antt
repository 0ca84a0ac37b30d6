pub mod Catalogue
pub mod Ranking
