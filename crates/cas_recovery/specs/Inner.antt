pub mod Restoring
pub mod Filling
pub mod Faults
