pub mod Clears
pub mod Unrefused
pub mod UnitData
pub mod Instants
