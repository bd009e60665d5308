pub mod Halves
pub mod Place
pub mod Signs
pub mod Splice
