pub mod Lines
pub mod Shows
