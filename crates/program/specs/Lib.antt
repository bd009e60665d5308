pub mod Program
pub mod Theorem
pub mod Worked
pub mod Console
