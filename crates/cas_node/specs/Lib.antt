pub mod Lines
pub mod Text
pub mod Ran
pub mod Laws
pub mod Inner
