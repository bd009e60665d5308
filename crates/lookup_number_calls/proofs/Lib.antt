pub mod Entry
pub mod Refused
