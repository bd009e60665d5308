pub mod Checks
pub mod Places
pub mod Reading
pub mod Records
pub mod Sections
pub mod Size
pub mod Splices
