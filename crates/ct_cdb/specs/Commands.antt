-- What commands mean, a row for each, by family.
pub mod Still
pub mod Blocks
pub mod Inquiries
pub mod Modes
pub mod Reservations
