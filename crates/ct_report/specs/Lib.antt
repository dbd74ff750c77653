pub mod Runs
pub mod ByteText
pub mod DiskText
pub mod AnswerText
pub mod JournalText
pub mod UnitText
