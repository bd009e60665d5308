pub mod Descend
pub mod Places
pub mod Planted
pub mod Search
