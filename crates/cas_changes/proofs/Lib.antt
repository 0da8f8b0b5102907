pub mod EntryLaws
pub mod EntryLengths
pub mod Places
pub mod Known
