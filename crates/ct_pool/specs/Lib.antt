pub mod Leases
pub mod Sound
pub mod Lends
