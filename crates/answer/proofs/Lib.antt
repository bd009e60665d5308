pub mod Answers
pub mod Calls
pub mod Converting
pub mod Entries
