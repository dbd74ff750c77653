-- What functions owe, and what they await.
pub mod Steady
pub mod Heard
pub mod Awaits
