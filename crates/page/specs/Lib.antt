pub mod Page
pub mod Shows
pub mod Worked
