pub mod Symbols
pub mod Lexemes
pub mod Phrases
pub mod Inner
