pub mod Highlight
pub mod Panel
pub mod Signs
pub mod Worked
