pub mod AtomLaws
pub mod RecordLaws
