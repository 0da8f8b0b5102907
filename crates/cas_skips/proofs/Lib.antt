pub mod Seen
pub mod Passing
pub mod BlockLoop
pub mod Spelling
pub mod Noting
