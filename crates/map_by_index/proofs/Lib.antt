pub mod Seeking
pub mod Siding
pub mod Merging
pub mod Finding
pub mod Readying
