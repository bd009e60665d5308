pub mod Cutting
pub mod Input
pub mod Theorem
