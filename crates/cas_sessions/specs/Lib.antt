pub mod Calls
pub mod Flushes
pub mod Filling
pub mod Dropping
pub mod Verifying
pub mod Laws
pub mod Inner
