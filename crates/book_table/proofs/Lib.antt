pub mod Rows
pub mod Unpacking
