pub mod Choosing
pub mod Committing
pub mod WorkedHolds
