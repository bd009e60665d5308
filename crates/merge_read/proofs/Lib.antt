pub mod Dues
pub mod Loading
pub mod Turning
