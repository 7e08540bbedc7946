pub mod Comparing
pub mod Drawing
pub mod Answering
pub mod WorkedHolds
