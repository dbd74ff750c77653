mod Searching
mod Commands
pub mod Known
