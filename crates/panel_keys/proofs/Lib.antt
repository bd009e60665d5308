pub mod Acts
pub mod Pressing
