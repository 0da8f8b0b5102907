pub mod Faults
pub mod Texts
pub mod Flushing
pub mod Verifying
