pub mod Commit
pub mod Worked
