pub mod Heads
pub mod Leading
pub mod Keeping
