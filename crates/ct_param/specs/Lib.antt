pub mod Faults
pub mod ModeLists
pub mod ResvLists
pub mod UnmapLists
