pub mod Offering
pub mod Starting
