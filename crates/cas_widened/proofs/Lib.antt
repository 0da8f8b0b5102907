pub mod Columns
pub mod Atoms
pub mod Memory
pub mod Files
