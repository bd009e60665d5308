pub mod Check
pub mod Held
