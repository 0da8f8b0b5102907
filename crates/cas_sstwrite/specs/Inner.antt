pub mod Sinks
pub mod Parts
pub mod Props
pub mod Whole
pub mod Adding
pub mod Ends
