pub mod Poising
