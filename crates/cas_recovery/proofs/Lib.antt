pub mod Places
pub mod Founding
mod Unflushed
pub mod Restoring
mod Starting
pub mod Within
pub mod Explained
pub mod Fills
pub mod Standing
pub mod Afterwards
pub mod Returning
pub mod Refusing
