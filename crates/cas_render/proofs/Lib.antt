pub mod InOrder
pub mod Shards
