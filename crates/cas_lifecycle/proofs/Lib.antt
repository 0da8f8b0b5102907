pub mod Turns
pub mod Homes
pub mod Listed
pub mod Books
