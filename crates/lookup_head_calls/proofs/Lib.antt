pub mod Companion
pub mod Place
