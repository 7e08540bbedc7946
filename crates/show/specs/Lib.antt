pub mod Check
pub mod Show
