pub mod Flushed
pub mod Accepting
pub mod Standing
pub mod Tables
pub mod Settling
pub mod Shrinking
pub mod Trimmed
