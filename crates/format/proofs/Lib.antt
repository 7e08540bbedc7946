pub mod Rulings
pub mod Rows
pub mod Rebuilding
pub mod Encoding
pub mod Unmarking
pub mod Tracing
