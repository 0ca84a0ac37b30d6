pub mod Mates
pub mod Fragments
pub mod Longest
