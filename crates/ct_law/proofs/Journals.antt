-- What a journal says.
pub mod Journal
pub mod Growing
