pub mod Write
pub mod Decide
