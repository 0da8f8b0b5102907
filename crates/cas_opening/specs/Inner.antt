pub mod Counting
pub mod Faults
pub mod Keeping
pub mod Naming
pub mod Reading
pub mod Sweeping
