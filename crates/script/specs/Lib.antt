pub mod Run
pub mod Script
pub mod Theorem
pub mod Worked
