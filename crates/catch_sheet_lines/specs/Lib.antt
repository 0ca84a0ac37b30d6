pub mod Sheets
pub mod Lent
