pub mod Left
pub mod Dropping
pub mod Formed
pub mod Lasting
pub mod Keeping
pub mod Merged
