pub mod Choice
pub mod Path
pub mod Alone
pub mod Held
