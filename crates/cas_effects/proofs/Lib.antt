pub mod Steps
pub mod LargeValues
pub mod Places
pub mod Written
pub mod Fitting
