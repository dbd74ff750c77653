-- What the run of the machine knows of commands, and that each row obeys it.
pub mod Laws
mod Footprints
pub mod Commands
pub mod Ready
