pub mod Calls
pub mod Writing
pub mod Whole
