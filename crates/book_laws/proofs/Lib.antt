pub mod Ahead
pub mod Check
pub mod Front
pub mod Scores
pub mod Standing
pub mod Stored
pub mod Walk
pub mod Held
