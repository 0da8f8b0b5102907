pub mod Found
pub mod Restored
pub mod Openings
pub mod Recovered
pub mod Laws
pub mod Inner
