pub mod Naming
pub mod Refused
pub mod Ranges
