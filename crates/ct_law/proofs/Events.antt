-- What each event keeps.
pub mod Steps
pub mod Nodes
pub mod Entries
pub mod Moves
pub mod Overs
pub mod Functions
