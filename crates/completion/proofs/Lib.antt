pub mod Layouts
pub mod Limit
pub mod Machine
