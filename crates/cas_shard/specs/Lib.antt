pub mod Entries
pub mod Laws
pub mod Shards
pub mod Stands
pub mod Flushing
pub mod Inner
