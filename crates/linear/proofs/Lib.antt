pub mod Items
pub mod Recovering
pub mod Theorems
pub mod Loading
pub mod Reading
pub mod Passing
pub mod Scaling
