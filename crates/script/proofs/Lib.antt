pub mod Script
pub mod Theorem
