pub mod Sizes
pub mod Selected
