pub mod Accepting
pub mod Lending
