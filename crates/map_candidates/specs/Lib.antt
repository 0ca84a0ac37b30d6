pub mod Search
pub mod Cursor
