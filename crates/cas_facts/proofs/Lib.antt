pub mod Joining
pub mod Gathered
pub mod Streams
