pub mod Counted
pub mod Reached
pub mod Walking
