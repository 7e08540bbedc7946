pub mod Counting
pub mod Estimating
pub mod WorkedHolds
