pub mod Calls
pub mod Partial
pub mod Peaks
pub mod Put
pub mod Stores
pub mod Whole
pub mod Reports
