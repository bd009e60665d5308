pub mod Ahead
pub mod Check
pub mod Held
pub mod Cursor
