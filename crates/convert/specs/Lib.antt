pub mod Convert
pub mod Moved
pub mod Worked
