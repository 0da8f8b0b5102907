pub mod Borrowed
pub mod Spots
