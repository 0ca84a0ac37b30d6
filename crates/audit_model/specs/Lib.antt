pub mod Settings
pub mod Opening
pub mod Observing
pub mod Fragment
pub mod Sheet
pub mod Unitigs
pub mod Run
pub mod Calls
