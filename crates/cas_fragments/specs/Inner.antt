pub mod Lasts
pub mod Counts
