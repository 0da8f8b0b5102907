pub mod Begun
pub mod Brackets
pub mod Said
pub mod Mergers
