pub mod Plans
pub mod PlanStates
pub mod Cells
pub mod Effects
pub mod Tasks
pub mod Pieces
