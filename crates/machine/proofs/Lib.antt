pub mod Fusing
pub mod Looks
pub mod Paying
pub mod Running
pub mod Gap
pub mod Carrying
pub mod Rounds
