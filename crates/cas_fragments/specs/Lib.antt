pub mod Spelling
pub mod Blocks
pub mod Reading
pub mod Allowed
pub mod Lengths
pub mod Laws
pub mod Inner
