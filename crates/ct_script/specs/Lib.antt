pub mod Cuts
pub mod ByteText
pub mod Reading
pub mod Words
pub mod Forms
pub mod Rules
pub mod Scripts
pub mod Lines
