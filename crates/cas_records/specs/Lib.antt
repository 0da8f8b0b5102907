pub mod Spelling
pub mod Reading
pub mod Columns
pub mod Allowed
pub mod Inner
