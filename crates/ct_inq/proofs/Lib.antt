pub mod Sizes
pub mod Entries
