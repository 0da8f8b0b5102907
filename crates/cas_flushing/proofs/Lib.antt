pub mod Frozen
pub mod Writing
pub mod Files
pub mod Opening
pub mod Tables
