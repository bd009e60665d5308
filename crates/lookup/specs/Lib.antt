pub mod Lookups
pub mod Worked
