pub mod Entries
pub mod Spelling
pub mod Allowed
pub mod Reading
pub mod Inner
pub mod Searches
pub mod Examples
