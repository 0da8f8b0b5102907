pub mod TooLarge
pub mod Refusals
pub mod AtomsOf
pub mod ListPlaces
pub mod WriteLaws
pub mod FitsBound
