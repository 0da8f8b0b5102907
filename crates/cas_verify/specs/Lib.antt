pub mod Partitions
pub mod Fields
pub mod Checking
pub mod Laws
pub mod Inner
