pub mod Calls
pub mod Reading
pub mod Trie
pub mod Worked
