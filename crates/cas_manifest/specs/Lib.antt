pub mod File
pub mod Manifests
pub mod Reading
pub mod Reads
pub mod Loading
pub mod Inner
