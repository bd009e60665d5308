pub mod Complete
pub mod Layouts
pub mod Machine
pub mod Worked
