pub mod Loops
pub mod Methods
