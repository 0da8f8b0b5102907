pub mod Kept
pub mod Memtables
pub mod Inner
