mod Keys
mod Steps
pub mod Reading
