pub mod OrderLaws
pub mod Fronts
pub mod Totals
pub mod Utf8
pub mod Padded
pub mod Ascii
