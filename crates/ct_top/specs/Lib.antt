pub mod Commands
pub mod Played
pub mod Report
pub mod Served
pub mod Exits
