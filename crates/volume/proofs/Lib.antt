pub mod Cutting
pub mod Volumes
pub mod Building
pub mod Adding
