pub mod Slices
pub mod Caching
pub mod Inner
