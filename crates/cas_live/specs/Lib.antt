pub mod Views
pub mod Walks
pub mod Rows
pub mod Inner
pub mod Laws
