pub mod Base
pub mod Read
pub mod Eligibility
