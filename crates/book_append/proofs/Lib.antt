pub mod Append
pub mod Book
pub mod Left
