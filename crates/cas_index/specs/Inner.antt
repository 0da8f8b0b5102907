pub mod Rooms
pub mod Following
