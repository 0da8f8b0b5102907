pub use Rattle.cql_phrases.specs.Symbols
pub use Rattle.cql_phrases.specs.Lexemes
pub use Rattle.cql_phrases.specs.Phrases
pub mod Tables
pub mod TableNames
pub mod Inner
