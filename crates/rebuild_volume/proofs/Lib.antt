pub mod Accepting
pub mod Passing
