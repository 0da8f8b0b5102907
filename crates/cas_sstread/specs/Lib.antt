pub mod Reading
pub mod Loading
pub mod Searches
pub mod Laws
pub mod Inner
