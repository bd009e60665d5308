pub mod Digits
pub mod Parsing
