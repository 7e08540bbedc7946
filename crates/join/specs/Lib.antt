pub mod Join
pub mod Open
