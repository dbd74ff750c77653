pub mod Cutting
pub mod Texts
pub mod HexPairs
pub mod Judging
pub mod Names
pub mod Saying
pub mod ByLines
pub mod Asking
