pub mod Facts
pub mod Told
pub mod Laws
pub mod Inner
