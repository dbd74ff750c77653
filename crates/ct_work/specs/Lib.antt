pub mod Grown
pub mod Jobs
pub mod Phases
