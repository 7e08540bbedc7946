pub mod Cutting
pub mod Cursors
