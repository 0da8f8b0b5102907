pub mod Exactness
pub mod FieldLaws
pub mod FieldLengths
pub mod ReadsLaws
pub mod Times
pub mod Sequences
