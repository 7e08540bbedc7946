pub mod Equality
pub mod Stretches
