-- What a line of a script says: nothing, a statement, `\clock n`, `\flush t`, `\verify t`, `\status`, or nothing that is known.
-- CQL documentation, "Definitions: comments"; the commands are own, `\flush` and `\verify` after the tools "nodetool flush" and "nodetool verify", `\status`
-- after "nodetool tablestats".
use Rattle.std.specs.Prelude.{◌≡◌, ℕ, ◌==◌, ℤ, pos, int_le, Bool, true, false, ◌&&◌, if◌then◌else◌, List, [], ◌∷◌, codes, Option, None, Some, IsUtf8}
use Rattle.std.specs.List.{filter, slice_split}
use Rattle.std.specs.Str.{str_eq_ignore_ascii_case}
use Rattle.cql_lex.specs.declared.token.Token.{Token}
use Rattle.cas_types.specs.declared.limits.TheConstants.{LAST_SECOND}
use Rattle.cql_lex.specs.Gaps.{is_blank}
use Rattle.cql_lex.specs.Lexes.{Lexes}
use Rattle.cql_lex.specs.Numbers.{number_value}
use Rattle.cql_parse.specs.Means.{Means}
use Rattle.cql_parse.specs.TableNames.{SpellsTable}
use Rattle.cql_parse.specs.declared.syntax.TableName.{TableName}
use Rattle.cas_lines.specs.declared.line.Line.{Line}
use Rattle.cas_lines.specs.declared.line.Line.TheVariants as line

-- some byte is there
abbrev pub has_bytes : List ℕ → Bool
has_bytes [] = false
has_bytes (b ∷ bs) = true

-- the words of a command: what stands between its blanks, spaces and tabs; of `\clock  90 ` they are `\clock` and `90`
abbrev pub words_of : List ℕ → List (List ℕ)
words_of text = filter has_bytes (slice_split is_blank text)

-- a command begins with `\`, at the line's first byte
abbrev pub is_command : List ℕ → Bool
is_command [] = false
is_command (b ∷ text) = b == 92

-- the number, where it is one of seconds from the start of 1970 to the end of the year 9999
abbrev pub seconds_in : Option ℤ → Option ℤ
seconds_in None = None
seconds_in (Some n) = if int_le (pos 0) n && int_le n LAST_SECOND then Some n else None

-- the seconds that a name and a number set: the name `\clock`, in small letters or large ones, and a whole number as CQL writes it
abbrev pub clock_by : List ℕ → List ℕ → Option ℤ
clock_by name n = if str_eq_ignore_ascii_case name (codes "\\clock") then seconds_in (number_value n) else None

-- the seconds that the words `\clock n` set
abbrev pub clock_in : List (List ℕ) → Option ℤ
clock_in (name ∷ n ∷ []) = clock_by name n
clock_in _ = None

-- the seconds of the command `\clock n`: of `\Clock  90` they are 90; `\clock`, `\clock -1` and `\clock 90;` have none
unfoldable pub clock_of : List ℕ → Option ℤ
clock_of text = if is_command text then clock_in (words_of text) else None

-- the table that a word names, as CQL spells it: `t`, `local.t`, `"My Table"`
abbrev pub IsTable : List ℕ → TableName → Type 0
IsTable word t = IsUtf8 word × SpellsTable word t

-- the word behind the name of a command, which stands in small letters or large ones
abbrev pub word_by : List ℕ → List ℕ → List ℕ → Option (List ℕ)
word_by command name word = if str_eq_ignore_ascii_case name command then Some word else None

-- the word behind it, where it is the only one
abbrev pub word_in : List ℕ → List (List ℕ) → Option (List ℕ)
word_in command (name ∷ word ∷ []) = word_by command name word
word_in command _ = None

-- the word of a command of that name: of `\Flush  local.t` it is `local.t`; `\flush` and `\flush t u` have none
unfoldable pub word_of : List ℕ → List ℕ → Option (List ℕ)
word_of command text = if is_command text then word_in command (words_of text) else None

-- the line tells the command of that name to do its work on this table
abbrev pub Commands : List ℕ → List ℕ → TableName → Type 0
Commands command text t = (word : List ℕ) × (word_of command text ≡ Some word) × IsTable word t

-- the line tells to flush this table: `\flush t` does, and `\flush t;` doesn't
abbrev pub Flushes : List ℕ → TableName → Type 0
Flushes text t = Commands (codes "\\flush") text t

-- the line tells to verify this table, as `\verify t` does
abbrev pub Verifies : List ℕ → TableName → Type 0
Verifies text t = Commands (codes "\\verify") text t

-- the name `\status`, in small letters or large ones
abbrev pub names_status : List ℕ → Bool
names_status name = str_eq_ignore_ascii_case name (codes "\\status")

-- the words are that one
abbrev pub status_in : List (List ℕ) → Bool
status_in (name ∷ []) = names_status name
status_in _ = false

-- the line asks which table files there are: `\status` does, and `\status t` doesn't
unfoldable pub asks_status : List ℕ → Bool
asks_status text = is_command text && status_in (words_of text)

-- the line says this: nothing but blanks and comments, a statement, or a command
abbrev pub Spells : List ℕ → Line → Type 0
Spells text line.Blank = IsUtf8 text × Lexes text []
Spells text (line.Statement s) = IsUtf8 text × ((tokens : List Token) × Lexes text tokens × Means text tokens s)
Spells text (line.Clock n) = clock_of text ≡ Some n
Spells text (line.Flush t) = Flushes text t
Spells text (line.Verify t) = Verifies text t
Spells text line.Status = asks_status text ≡ true
Spells text line.Syntax = ⊥

-- the line says this; one that says none of those is bad syntax
abbrev pub Says : List ℕ → Line → Type 0
Says text line.Blank = Spells text line.Blank
Says text (line.Statement s) = Spells text (line.Statement s)
Says text (line.Clock n) = Spells text (line.Clock n)
Says text (line.Flush t) = Spells text (line.Flush t)
Says text (line.Verify t) = Spells text (line.Verify t)
Says text line.Status = Spells text line.Status
Says text line.Syntax = (l : Line) → Spells text l → ⊥
