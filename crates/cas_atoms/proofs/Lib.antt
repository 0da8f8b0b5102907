pub mod GreatestLemmas
pub mod Wins
pub mod Folds
pub mod Components
pub mod ListSteps
