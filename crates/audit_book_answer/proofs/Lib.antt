pub mod Runs
pub mod Posted
pub mod Answering
