pub mod Numerals
pub mod ClapRules
pub mod GivenRows
pub mod ClapSteps
pub mod WordsAgree
pub mod WordsFound
pub mod Commands
