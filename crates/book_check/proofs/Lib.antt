pub mod Answer
pub mod FromBook
pub mod Refusing
