pub mod Texts
pub mod Allocation
pub mod Inquiries
pub mod Capacities
pub mod Luns
pub mod Direct
