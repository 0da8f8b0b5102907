pub mod Used
pub mod Changed
pub mod Sorting
