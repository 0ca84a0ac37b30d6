pub mod Shown
pub mod Choosing
