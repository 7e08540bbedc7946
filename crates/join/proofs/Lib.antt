pub mod Joining
pub mod Opening
pub mod Tracing
