pub mod ByKind
pub mod AtPrice
