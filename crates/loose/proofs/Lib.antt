pub mod Accepting
pub mod WorkedHolds
