pub mod Fits
pub mod Entries
