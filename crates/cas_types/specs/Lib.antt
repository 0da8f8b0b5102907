pub mod Limits
pub mod Values
pub mod Orders
pub mod Schemas
pub mod Keys
pub mod Laws
pub mod Inner
