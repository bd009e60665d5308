pub mod Converting
pub mod Stores
pub mod Writing
