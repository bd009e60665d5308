pub mod Editing
pub mod Nothing
