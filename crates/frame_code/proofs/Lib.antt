pub mod Checked
pub mod Held
pub mod Stored
