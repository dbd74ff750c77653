pub mod Raising
pub mod Codes
pub mod Nexuses
