pub mod Behind
pub mod Growing
pub mod Lending
pub mod Choosing
