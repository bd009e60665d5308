pub mod Complete
pub mod Exact
pub mod Heads
pub mod Sound
pub mod Stand
pub mod Weight
pub mod Written
