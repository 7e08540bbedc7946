pub mod Cut
pub mod Cursor
