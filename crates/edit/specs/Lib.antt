pub mod Edits
pub mod Worked
