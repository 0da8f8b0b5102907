mod Tests
mod Columns
mod Options
mod Tables
mod Texts
mod Stated
pub mod Told
pub mod Telling
