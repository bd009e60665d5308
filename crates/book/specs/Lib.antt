pub mod Book
pub mod Checks
pub mod Old
pub mod Records
pub mod Shown
pub mod Worked
