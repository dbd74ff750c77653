-- What holds at the ends of acts alone.
pub mod Sends
pub mod Live
pub mod Busy
pub mod Complete
pub mod Writes
pub mod Weights
pub mod Fits
