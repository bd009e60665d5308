pub mod Empty
pub mod Shrinks
pub mod Withdrawing
