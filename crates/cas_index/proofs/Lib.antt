pub mod Following
pub mod IndexLaws
pub mod Lengths
pub mod Searching
pub mod SearchLaws
