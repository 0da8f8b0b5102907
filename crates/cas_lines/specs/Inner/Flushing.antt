-- What the reading of a table's name finds (own).
use Rattle.std.specs.Prelude.{ℕ, List, Option, None, Some}
use Rattle.cql_parse.specs.declared.syntax.TableName.{TableName}
use Rattle.cas_lines.specs.Lines.{IsTable}

-- the word names this table, or none
abbrev pub NamesTable : List ℕ → Option TableName → Type 0
NamesTable word (Some t) = IsTable word t
NamesTable word None = (t : TableName) → IsTable word t → ⊥
