pub mod Told
pub mod Left
