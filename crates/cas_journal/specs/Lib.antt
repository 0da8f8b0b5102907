pub mod Fresh
pub mod Notes
pub mod Stores
pub mod Journals
pub mod Ends
pub mod Reach
pub mod Inner
