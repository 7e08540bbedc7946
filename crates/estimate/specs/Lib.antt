pub mod Estimate
pub mod Count
pub mod Worked
