pub mod Tops
pub mod Reading
pub mod Grammar
pub mod Replays
pub mod Inner
