pub mod Poised
