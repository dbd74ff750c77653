-- The task set and the messages on their way, as lists.
pub mod Tasks
pub mod Messages
pub mod Changed
