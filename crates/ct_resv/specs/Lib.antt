pub mod Registering
pub mod Access
pub mod Changes
pub mod Actions
pub mod Reports
pub mod Faults
pub mod Soundness
