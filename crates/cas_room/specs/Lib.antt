pub mod Rooms
pub mod Keeping
pub mod Tables
pub mod Changing
pub mod Dropping
