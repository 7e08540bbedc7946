pub mod Bytes
pub mod Taking
pub mod Counting
pub mod Writing
pub mod Accepting
pub mod Agreeing
pub mod Pieces
pub mod WorkedHolds
