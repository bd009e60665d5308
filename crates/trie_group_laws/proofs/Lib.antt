pub mod Groups
pub mod Keys
pub mod Made
pub mod Sort
