pub mod Fields
pub mod Decimals
pub mod Nexuses
pub mod Kept
pub mod Lends
pub mod LendsBytes
pub mod Causes
