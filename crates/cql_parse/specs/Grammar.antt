-- The grammar of SELECT and of statements. A phrase goes from the lexemes that come to those that are left after it, as `Phrases` of `cql_phrases` says,
-- which also has names, lists, constants and terms; CREATE TABLE and ALTER TABLE stand in `Tables` of `cql_tables`, INSERT, UPDATE, DELETE and
-- restrictions in `Changes` of `cql_changes`. In the comments `[x]` is x or nothing, `{x}` is x any number of times, `x | y` is one of them.
-- CQL documentation, "Data manipulation"; AFTER and PAGE are own.
use Rattle.std.specs.Prelude.{ℕ, List, []}
use Rattle.cql_phrases.specs.declared.lexeme.Lexeme.{Lexeme}
use Rattle.cql_phrases.specs.declared.keyword.Keyword.{Keyword}
use Rattle.cql_phrases.specs.declared.keyword.Keyword.TheVariants as word
use Rattle.cql_lex.specs.declared.token.Mark.TheVariants as mark
use Rattle.cql_phrases.specs.declared.lists.Separator.TheVariants as separator
use Rattle.cql_parse.specs.declared.syntax.Select.{Select}
use Rattle.cql_parse.specs.declared.syntax.Picks.{Picks}
use Rattle.cql_parse.specs.declared.syntax.Picks.TheVariants as picks
use Rattle.cql_parse.specs.declared.syntax.Pick.{Pick}
use Rattle.cql_parse.specs.declared.syntax.Pick.TheVariants as pick
use Rattle.cql_parse.specs.declared.syntax.Statement.{Statement}
use Rattle.cql_parse.specs.declared.syntax.Statement.TheVariants as statement
use Rattle.cql_phrases.specs.Phrases.{Behind, IsBlob, IsName, IsNumber, Maybe, Phrase, Some_of, keyword, nothing, sign, ◌∣◌, ◌▸◌}
use Rattle.cql_tables.specs.Tables.{IsTable, IsColumnOrder, IsCreate, IsAlter}
use Rattle.cql_changes.specs.Changes.{IsRelation, IsInsert, IsUpdate, IsDelete}

-- ---- SELECT

-- a call of this word, WRITETIME or TTL: `TTL(v)`
abbrev pub Called : Keyword → List ℕ → Phrase
Called k n = keyword k ▸ sign mark.OpenParen ▸ IsName n ▸ sign mark.CloseParen

-- name | WRITETIME "(" name ")" | TTL "(" name ")"
abbrev pub IsPick : Pick → Phrase
IsPick (pick.Value n) = IsName n
IsPick (pick.WriteTime n) = Called word.WriteTime n
IsPick (pick.Ttl n) = Called word.Ttl n

-- "*" | pick {"," pick}: `k, TTL(v)`
abbrev pub IsPicks : Picks → Phrase
IsPicks picks.All = sign mark.Star
IsPicks (picks.These xs) = Some_of separator.Comma IsPick xs

-- SELECT picks FROM table [WHERE relation {AND relation}] [ORDER BY orders] [AFTER blob] [PAGE number] [LIMIT number]:
-- `SELECT v FROM t WHERE k = 1 AND c > 2 ORDER BY c DESC LIMIT 5`
abbrev pub IsSelect : Select → Phrase
IsSelect x =
    keyword word.Select ▸ IsPicks x.picks ▸ keyword word.From ▸ IsTable x.table
    ▸ Behind (keyword word.Where) separator.And IsRelation x.relations
    ▸ Behind (keyword word.Order ▸ keyword word.By) separator.Comma IsColumnOrder x.order
    ▸ Maybe (keyword word.After) IsBlob x.after
    ▸ Maybe (keyword word.Page) IsNumber x.page
    ▸ Maybe (keyword word.Limit) IsNumber x.limit

-- ---- statements

-- the phrase of a statement, without its semicolon
abbrev pub Of : Statement → Phrase
Of (statement.Create x) = IsCreate x
Of (statement.Alter x) = IsAlter x
Of (statement.Insert x) = IsInsert x
Of (statement.Update x) = IsUpdate x
Of (statement.Delete x) = IsDelete x
Of (statement.Select x) = IsSelect x

-- The lexemes spell the statement: statement [";"], and nothing after it.
abbrev pub IsStatement : Statement → List Lexeme → Type 0
IsStatement s l = (Of s ▸ (sign mark.Semicolon ∣ nothing)) l []
