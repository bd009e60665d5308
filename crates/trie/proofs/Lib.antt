pub mod Bound
pub mod Header
pub mod Sets
pub mod Trie
