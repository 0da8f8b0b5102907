pub mod Ranges
pub mod Ends
pub mod Spots
pub mod Placed
pub mod Partitions
pub mod Ranged
pub mod Slices
pub mod Inner
