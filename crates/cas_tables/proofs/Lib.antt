pub mod HeaderLaws
pub mod Lengths
pub mod Standing
pub mod IndexFits
pub mod InfoFits
