pub mod Accepts
pub mod Answer
pub mod Held
pub mod RowLoop
pub mod Rows
