pub mod Hashing
pub mod Filters
pub mod Spelling
pub mod Allowed
pub mod Reading
pub mod Laws
