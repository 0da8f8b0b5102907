pub mod Droppable
pub mod Purged
pub mod Laws
pub mod Inner
