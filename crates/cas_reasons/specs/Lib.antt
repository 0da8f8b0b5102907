pub mod Statements
pub mod Extents
pub mod RowFaults
pub mod RowReasons
pub mod Inner
