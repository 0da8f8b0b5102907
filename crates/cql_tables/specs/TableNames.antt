-- The name of a table as a word of a command, as `local.t` in `\flush local.t`.
-- CQL documentation, "Data definition: common definitions" (the names of tables); that nothing else may stand in the word is own.
use Rattle.std.specs.Prelude.{◌≡◌, ℕ, ◌==◌, Bool, true, ◌&&◌, List, [], ◌∷◌, length, Some, Result, Ok, Err}
use Rattle.cql_lex.specs.Lexes.{Lexes}
use Rattle.cql_lex.specs.declared.token.Token.{Token}
use Rattle.cql_phrases.specs.declared.fault.ParseFault.{ParseFault}
use Rattle.cql_phrases.specs.declared.fault.ParseFault.TheVariants as faults
use Rattle.cql_phrases.specs.declared.lexeme.Lexeme.{Lexeme}
use Rattle.cql_tables.specs.declared.syntax.TableName.{TableName}
use Rattle.cql_phrases.specs.Lexemes.{lexemes_of}
use Rattle.cql_tables.specs.Tables.{IsTable}

-- each token begins where the one before it ends, from this place up to the end: so do those of `local.t`, and neither
-- those of `local . t` nor those of `t--a`
abbrev pub are_joined : ℕ → List Token → ℕ → Bool
are_joined from [] end = from == end
are_joined from (t ∷ ts) end = (t.start == from) && are_joined t.end ts end

-- the word is the table's name, by the grammar of tables, with nothing before, between or after its tokens: `t`,
-- `local.t`, `"My Table"`, and neither `t;` nor `local. t`
pub record SpellsTable (word : List ℕ) (table : TableName) : Type 0 where
  pub tokens : List Token
  pub lexed : Lexes word tokens
  pub joined : are_joined 0 tokens (length word) ≡ true
  pub lexemes : List Lexeme
  pub meanings : lexemes_of word tokens ≡ Some lexemes
  pub grammar : IsTable table lexemes []

-- the answer is this one, unless memory ran out
abbrev pub IsAnswer : {A : Type 0} → A → Result A ParseFault → Type 0
IsAnswer x (Ok y) = y ≡ x
IsAnswer x (Err faults.Mem) = Unit {0}
IsAnswer x (Err faults.Syntax) = ⊥

-- no word spells two tables
abbrev pub OneTable : Type 0
OneTable = (word : List ℕ) (t u : TableName) → SpellsTable word t → SpellsTable word u → t ≡ u
