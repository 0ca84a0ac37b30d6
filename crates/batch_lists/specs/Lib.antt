pub mod Lists
pub mod Listed
