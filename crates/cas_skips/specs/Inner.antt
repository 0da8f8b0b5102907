pub mod Passing
pub mod Stops
pub mod Notes
