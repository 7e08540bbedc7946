pub mod Pass
pub mod Carried
