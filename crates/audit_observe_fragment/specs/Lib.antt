pub mod Observe
