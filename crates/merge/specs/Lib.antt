pub mod Joined
pub mod Merged
pub mod Worked
