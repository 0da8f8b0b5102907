pub mod Rooms
pub mod Writers
pub mod Causes
pub mod Finished
pub mod Inner
