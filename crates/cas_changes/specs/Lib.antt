pub mod Saying
pub mod Allowed
pub mod Spelling
pub mod Reading
