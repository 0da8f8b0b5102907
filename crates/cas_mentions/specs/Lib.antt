pub mod Mentions
pub mod ColumnFaults
pub mod Inner
