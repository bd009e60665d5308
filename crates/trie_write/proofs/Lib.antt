pub mod Alone
pub mod Fuel
pub mod Going
pub mod Shown
pub mod Told
pub mod Turning
pub mod Whole
