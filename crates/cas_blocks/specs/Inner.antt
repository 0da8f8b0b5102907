pub mod Ranges
pub mod Bodies
pub mod Steps
pub mod Pieces
pub mod Windows
pub mod Fronts
