pub mod Keeping
mod Scanning
pub mod Showing
pub mod Keys
pub mod Nexts
pub mod Gathering
