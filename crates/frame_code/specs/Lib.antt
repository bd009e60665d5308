pub mod Image
pub mod Stored
