pub mod Pages
pub mod Senses
pub mod Selects
