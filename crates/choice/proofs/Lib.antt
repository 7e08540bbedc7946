pub mod Path
pub mod Unjoining
pub mod Least
pub mod Lists
pub mod Scaling
pub mod Holding
pub mod Pricing
pub mod Nesting
