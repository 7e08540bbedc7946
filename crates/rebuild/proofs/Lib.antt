pub mod Accepting
pub mod Copying
pub mod Meeting
