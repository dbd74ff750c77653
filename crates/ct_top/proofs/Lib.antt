pub mod Bounds
pub mod Ranges
pub mod Draining
pub mod Arriving
