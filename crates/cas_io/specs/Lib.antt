pub mod Causes
pub mod Streams
pub mod Inner
