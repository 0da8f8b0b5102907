pub mod Selects
pub mod Meaning
pub mod Tables
pub mod Fitting
pub mod Inner
