-- The grammar of INSERT, UPDATE and DELETE, and of the clauses that SELECT shares with them. A phrase goes from the lexemes that come to those
-- that are left after it, as `Phrases` of `cql_phrases` says. In the comments `[x]` is x or nothing, `{x}` is x any number of times, `x | y` is
-- one of them.
-- CQL documentation, "Data manipulation".
use Rattle.std.specs.Prelude.{List, [], ◌∷◌, Option, None, Some}
use Rattle.cql_phrases.specs.declared.keyword.Keyword.TheVariants as word
use Rattle.cql_lex.specs.declared.token.Mark.TheVariants as mark
use Rattle.cql_phrases.specs.declared.lists.Separator.TheVariants as separator
use Rattle.cql_phrases.specs.declared.term.Constant.{Constant}
use Rattle.cql_changes.specs.declared.syntax.Insert.{Insert}
use Rattle.cql_changes.specs.declared.syntax.Use.{Use}
use Rattle.cql_changes.specs.declared.syntax.Use.TheVariants as «use»
use Rattle.cql_changes.specs.declared.syntax.Update.{Update}
use Rattle.cql_changes.specs.declared.syntax.Assignment.{Assignment}
use Rattle.cql_changes.specs.declared.syntax.Assigned.{Assigned}
use Rattle.cql_changes.specs.declared.syntax.Assigned.TheVariants as assigned
use Rattle.cql_changes.specs.declared.syntax.Delete.{Delete}
use Rattle.cql_changes.specs.declared.syntax.Target.{Target}
use Rattle.cql_changes.specs.declared.syntax.Relation.{Relation}
use Rattle.cql_changes.specs.declared.syntax.Operator.{Operator}
use Rattle.cql_changes.specs.declared.syntax.Operator.TheVariants as operator
use Rattle.cql_phrases.specs.Phrases.{Behind, InParens, IsConstant, IsLiteral, IsName, IsNumber, IsTerm, Maybe, Phrase}
use Rattle.cql_phrases.specs.Phrases.{Some_of, close_bracket, keyword, nothing, open_bracket, sign, ◌▸◌}
use Rattle.cql_tables.specs.Tables.{IsTable}

-- ---- clauses of several statements

-- TIMESTAMP number | TTL number: `TTL 86400`
abbrev pub IsUse : Use → Phrase
IsUse («use».Timestamp n) = keyword word.Timestamp ▸ IsNumber n
IsUse («use».Ttl n) = keyword word.Ttl ▸ IsNumber n

-- "=" | "<" | "<=" | ">" | ">="
abbrev pub IsOperator : Operator → Phrase
IsOperator operator.Equal = sign mark.Equals
IsOperator operator.Less = sign mark.Less
IsOperator operator.AtMost = sign mark.AtMost
IsOperator operator.Greater = sign mark.Greater
IsOperator operator.AtLeast = sign mark.AtLeast

-- name operator term: `c >= 5`
abbrev pub IsRelation : Relation → Phrase
IsRelation x = IsName x.column ▸ IsOperator x.operator ▸ IsTerm x.value

-- "[" constant "]": `['a']`
abbrev pub InBrackets : Constant → Phrase
InBrackets c = open_bracket ▸ IsConstant c ▸ close_bracket

-- ---- INSERT, UPDATE, DELETE

-- INSERT INTO table "(" names ")" VALUES "(" terms ")" [USING use {AND use}]:
-- `INSERT INTO t (k, v) VALUES (1, 'a') USING TTL 5`
abbrev pub IsInsert : Insert → Phrase
IsInsert x =
    keyword word.Insert ▸ keyword word.Into ▸ IsTable x.table ▸ InParens IsName x.columns ▸ keyword word.Values ▸ InParens IsTerm x.values
    ▸ Behind (keyword word.Using) separator.And IsUse x.uses

-- "=" term | "=" name "+" literal | "=" literal "+" name | "=" name "-" literal | "[" constant "]" "=" term:
-- `= 5`, `= s + {1}`, `= [1] + l`, `= s - {1}`, `['a'] = 5`
abbrev pub IsAssigned : Assigned → Phrase
IsAssigned (assigned.Whole t) = sign mark.Equals ▸ IsTerm t
IsAssigned (assigned.Append n x) = sign mark.Equals ▸ IsName n ▸ sign mark.Plus ▸ IsLiteral x
IsAssigned (assigned.Prepend x n) = sign mark.Equals ▸ IsLiteral x ▸ sign mark.Plus ▸ IsName n
IsAssigned (assigned.Remove n x) = sign mark.Equals ▸ IsName n ▸ sign mark.Minus ▸ IsLiteral x
IsAssigned (assigned.Entry c t) = InBrackets c ▸ sign mark.Equals ▸ IsTerm t

-- name assigned: `v = 5`, `m['a'] = 5`
abbrev pub IsAssignment : Assignment → Phrase
IsAssignment x = IsName x.column ▸ IsAssigned x.value

-- UPDATE table [USING use {AND use}] SET assignments WHERE relation {AND relation}:
-- `UPDATE t SET v = 5, w = NULL WHERE k = 1`
abbrev pub IsUpdate : Update → Phrase
IsUpdate x =
    keyword word.Update ▸ IsTable x.table ▸ Behind (keyword word.Using) separator.And IsUse x.uses
    ▸ keyword word.Set ▸ Some_of separator.Comma IsAssignment x.assignments
    ▸ keyword word.Where ▸ Some_of separator.And IsRelation x.relations

-- ["[" constant "]"]: the key of an entry
abbrev pub Keyed : Option Constant → Phrase
Keyed None = nothing
Keyed (Some c) = InBrackets c

-- name ["[" constant "]"]: `v`, `m['a']`
abbrev pub IsTarget : Target → Phrase
IsTarget x = IsName x.column ▸ Keyed x.key

-- [target {"," target}]: `v, m['a']`, or nothing
abbrev pub Targets : List Target → Phrase
Targets [] = nothing
Targets (x ∷ xs) = Some_of separator.Comma IsTarget (x ∷ xs)

-- DELETE [targets] FROM table [USING TIMESTAMP number] WHERE relation {AND relation}:
-- `DELETE v, m['a'] FROM t WHERE k = 1`
abbrev pub IsDelete : Delete → Phrase
IsDelete x =
    keyword word.Delete ▸ Targets x.targets ▸ keyword word.From ▸ IsTable x.table
    ▸ Maybe (keyword word.Using ▸ keyword word.Timestamp) IsNumber x.timestamp
    ▸ keyword word.Where ▸ Some_of separator.And IsRelation x.relations
