pub mod Groups
pub mod Raises
pub mod Fragments
