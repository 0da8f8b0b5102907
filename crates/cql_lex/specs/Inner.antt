-- What only helps this crate's own contracts.
pub mod Letters
pub mod Fronts
