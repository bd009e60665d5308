pub mod Sheet
pub mod Worked
