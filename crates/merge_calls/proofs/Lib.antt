pub mod Answering
pub mod Turns
pub mod Whole
