pub mod Bits
pub mod FilterLaws
pub mod Exact
