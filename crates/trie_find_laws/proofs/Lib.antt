pub mod Descend
pub mod Nodes
pub mod Planted
pub mod Search
pub mod Stands
