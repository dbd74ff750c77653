pub mod Blocking
pub mod Places
pub mod Rising
mod Shared
