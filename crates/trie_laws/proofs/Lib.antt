pub mod Behind
pub mod Keys
