pub mod Limit
pub mod Order
pub mod Promises
pub mod Writes
