pub mod Stores
pub mod Looks
pub mod Turns
