pub mod Writing
pub mod Deciding
