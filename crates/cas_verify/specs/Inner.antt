pub mod Ends
pub mod Walks
pub mod Heads
pub mod Scans
