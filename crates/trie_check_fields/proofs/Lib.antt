pub mod Ends
pub mod Fields
pub mod Heads
