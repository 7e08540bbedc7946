pub mod Volume
pub mod Filling
