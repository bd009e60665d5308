pub mod Completing
pub mod Editing
pub mod Stepping
