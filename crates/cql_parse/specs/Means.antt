-- What the tokens of a source mean.
use Rattle.std.specs.Prelude.{◌≡◌, ℕ, List, [], Option, None, Some}
use Rattle.cql_lex.specs.Lexes.{Lexes}
use Rattle.cql_lex.specs.declared.token.Token.{Token}
use Rattle.cql_phrases.specs.declared.lexeme.Lexeme.{Lexeme}
use Rattle.cql_parse.specs.declared.syntax.Statement.{Statement}
use Rattle.cql_phrases.specs.Lexemes.{lexemes_of}
use Rattle.cql_parse.specs.Grammar.{IsStatement}
pub use Rattle.cql_tables.specs.TableNames.{IsAnswer}

-- the tokens of the source spell the statement: those of `SELECT * FROM t` the Select of all columns of t
pub record Means (source : List ℕ) (tokens : List Token) (statement : Statement) : Type 0 where
  pub lexemes : List Lexeme
  pub meanings : lexemes_of source tokens ≡ Some lexemes
  pub grammar : IsStatement statement lexemes

-- a line means a statement, which its tokens spell; or nothing, where it has none
abbrev pub LineMeans : List ℕ → Option Statement → Type 0
LineMeans source None = Lexes source []
LineMeans source (Some s) = (tokens : List Token) × Lexes source tokens × Means source tokens s

-- no tokens spell two statements
abbrev pub OneStatement : Type 0
OneStatement = (source : List ℕ) (tokens : List Token) (s t : Statement) → Means source tokens s → Means source tokens t → s ≡ t
