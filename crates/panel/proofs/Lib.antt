pub mod Highlight
pub mod Refused
