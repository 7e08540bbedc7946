pub mod Bounds
pub mod Scaling
