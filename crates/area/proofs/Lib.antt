pub mod Filling
pub mod Pasting
