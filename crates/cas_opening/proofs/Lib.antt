pub mod Saids
pub mod Counts
pub mod Sweeps
pub mod Keeps
pub mod Readings
pub mod Names
pub mod Opens
pub mod Noting
