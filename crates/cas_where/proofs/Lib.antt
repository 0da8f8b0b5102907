pub mod SliceLaws
pub mod Fitting
