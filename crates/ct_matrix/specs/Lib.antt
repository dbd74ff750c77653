pub mod Extents
pub mod Matrix
pub mod Conflicts
pub mod Queues
