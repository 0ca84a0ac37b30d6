pub mod Name
pub mod Comparison
pub mod Lent
