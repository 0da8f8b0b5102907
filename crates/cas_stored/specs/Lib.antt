pub mod Contents
pub mod Stored
pub mod Reading
pub mod Rows
pub mod Laws
pub mod Inner
