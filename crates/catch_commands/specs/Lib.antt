pub mod Operands
pub mod Commands
pub mod Telling
