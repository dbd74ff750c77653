mod Slots
mod Steps
pub mod Leases
