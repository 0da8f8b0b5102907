pub mod Names
pub mod Columns
pub mod Constants
pub mod Terms
pub mod TermLaws
pub mod Inner
