pub mod Places
pub mod Running
pub mod Alone
pub mod Zeros
pub mod Lines
