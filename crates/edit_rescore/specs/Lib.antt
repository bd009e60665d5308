pub mod Rescored
