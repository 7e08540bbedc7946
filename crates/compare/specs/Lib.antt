pub mod Compare
pub mod Alike
pub mod Worked
