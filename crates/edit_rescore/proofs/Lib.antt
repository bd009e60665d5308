pub mod Rescored
pub mod Whole
