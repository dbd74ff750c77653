pub mod Ranged
pub mod Lists
pub mod Performing
pub mod Steps
pub mod Cuts
pub mod Planned
