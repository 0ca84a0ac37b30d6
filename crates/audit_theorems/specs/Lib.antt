pub mod Placements
pub mod Meaning
pub mod Twins
pub mod Examples
pub mod Made
pub mod Promised
pub mod Turns
