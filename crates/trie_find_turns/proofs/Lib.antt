pub mod Leading
pub mod Standing
pub mod Turning
