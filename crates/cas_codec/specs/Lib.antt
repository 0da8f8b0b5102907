pub mod Fields
pub mod Reading
pub mod Exact
pub mod Inner
