pub mod Window
pub mod Key
pub mod Seeds
