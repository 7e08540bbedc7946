pub mod Numerals
pub mod Composing
