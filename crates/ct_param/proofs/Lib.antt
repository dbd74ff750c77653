pub mod Pages
pub mod Descriptors
pub mod Sharing
mod InOrder
