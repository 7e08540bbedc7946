pub mod Loose
pub mod Worked
