pub mod Kept
pub mod Replies
pub mod Held
pub mod Inner
