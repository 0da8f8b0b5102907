pub mod Fitting
pub mod Laws
pub mod Flushed
pub mod Inner
