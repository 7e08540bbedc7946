pub mod Judged
pub mod Walking
pub mod Telling
pub mod Accepted
pub mod Encoded
pub mod Unmarked
pub mod Loosened
