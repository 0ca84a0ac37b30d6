pub mod Number
pub mod Pieces
pub mod Settings
pub mod Targets
