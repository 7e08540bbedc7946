pub mod Checks
pub mod Walked
