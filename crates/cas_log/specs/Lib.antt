pub mod Segment
pub mod Logs
