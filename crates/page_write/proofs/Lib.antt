pub mod Writing
pub mod Paging
