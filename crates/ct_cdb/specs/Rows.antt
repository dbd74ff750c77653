-- The rows of the table of CDB forms, by family of commands.
pub mod Blocks
pub mod Inquiries
pub mod Modes
pub mod Reservations
