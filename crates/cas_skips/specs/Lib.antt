pub mod Told
pub mod Marks
pub mod Blocks
pub mod Inner
