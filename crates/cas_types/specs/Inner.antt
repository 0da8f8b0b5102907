-- What only helps this crate's own contracts.
pub mod Kept
pub mod Padded
