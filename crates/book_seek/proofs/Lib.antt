pub mod Found
pub mod Seeking
pub mod Settling
pub mod Sharing
