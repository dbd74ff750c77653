-- The blocks, and what operations make of them.
pub mod Blocks
pub mod Execs
pub mod Held
pub mod Ends
