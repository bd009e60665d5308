pub mod Halves
pub mod Place
pub mod Prefixes
pub mod Signs
pub mod Splice
