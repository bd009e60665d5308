pub mod Asked
pub mod Copies
