pub mod Alike
pub mod Comparing
pub mod Placing
pub mod Swapping
