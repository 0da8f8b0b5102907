-- What holds of every line (own).
use Rattle.std.specs.Prelude.{◌≡◌, ℕ, false, List, ◌++◌, codes}
use Rattle.std.specs.List.{All}
use Rattle.cql_lex.specs.Gaps.{is_blank}
use Rattle.cql_parse.specs.declared.syntax.TableName.{TableName}
use Rattle.cas_lines.specs.declared.line.Line.{Line}
use Rattle.cas_lines.specs.declared.line.Line.TheVariants as line
use Rattle.cas_lines.specs.Lines.{IsTable, Says}

-- a line says one thing only
abbrev pub OneReading : Type 0
OneReading = (text : List ℕ) (l m : Line) → Says text l → Says text m → l ≡ m

-- behind `\flush` and a space each word that names a table tells to flush that table; one in quotes may have no blank in them
abbrev pub FlushesAreRead : Type 0
FlushesAreRead =
    (word : List ℕ) (t : TableName) → IsTable word t → All (λ b. is_blank b ≡ false) word → Says (codes "\\flush " ++ word) (line.Flush t)

-- and behind `\verify` and a space to verify it
abbrev pub VerifiesAreRead : Type 0
VerifiesAreRead =
    (word : List ℕ) (t : TableName) → IsTable word t → All (λ b. is_blank b ≡ false) word → Says (codes "\\verify " ++ word) (line.Verify t)

-- `\status` asks which table files there are, also in large letters
abbrev pub StatusIsRead : Type 0
StatusIsRead = Says (codes "\\status") line.Status × Says (codes "\\STATUS") line.Status
