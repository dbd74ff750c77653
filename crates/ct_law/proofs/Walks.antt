-- What holds behind each turn of an act.
pub mod Walk
pub mod Schedules
pub mod Cleared
pub mod Clears
pub mod Turns
pub mod Comings
