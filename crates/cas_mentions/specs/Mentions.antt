-- What INSERT, UPDATE, DELETE and SELECT say of columns: what each column is given, compared with or asked.
-- CQL documentation, "Data manipulation: INSERT, UPDATE, DELETE, SELECT".
use Rattle.std.specs.Prelude.{ℕ, List, [], ◌++◌, map, Option}
use Rattle.std.specs.List.{zip}
use Rattle.cql_parse.specs.declared.term.Constant.{Constant}
use Rattle.cql_parse.specs.declared.term.Term.{Term}
use Rattle.cql_parse.specs.declared.syntax.Statement.{Statement}
use Rattle.cql_parse.specs.declared.syntax.Statement.TheVariants as statement
use Rattle.cql_parse.specs.declared.syntax.Assigned.{Assigned}
use Rattle.cql_parse.specs.declared.syntax.Assigned.TheVariants as assigned
use Rattle.cql_parse.specs.declared.syntax.Relation.{Relation}
use Rattle.cql_parse.specs.declared.syntax.Pick.{Pick}
use Rattle.cql_parse.specs.declared.syntax.Pick.TheVariants as pick
use Rattle.cql_parse.specs.declared.syntax.Picks.{Picks}
use Rattle.cql_parse.specs.declared.syntax.Picks.TheVariants as picks

-- ---- the parts of a statement

-- the restrictions of its WHERE
unfoldable pub relations_of : Statement → List Relation
relations_of (statement.Update u) = u.relations
relations_of (statement.Delete d) = d.relations
relations_of (statement.Select s) = s.relations
relations_of _ = []

-- what a SELECT names to be shown; `*` names nothing
unfoldable pub picks_in : Picks → List Pick
picks_in picks.All = []
picks_in (picks.These ps) = ps

-- v in `v`, `WRITETIME(v)` and `TTL(v)`
unfoldable pub picked_name : Pick → List ℕ
picked_name (pick.Value n) = n
picked_name (pick.WriteTime n) = n
picked_name (pick.Ttl n) = n

-- ---- what becomes of columns

-- what a statement does to one column: it assigns a value, as in `SET v = 1`, `SET s = s + {1}` and by a value of an INSERT;
-- or it deletes the column, or one entry of it, as in `DELETE v, m[1]`
pub data Change : Type 0 where
  assigns : Assigned → Change
  deletes : Option Constant → Change

-- a value of an INSERT is assigned as a whole
abbrev pub inserted : List ℕ × Term → List ℕ × Change
inserted p = (p.0, assigns (assigned.Whole p.1))

-- each column that a statement changes, with what it does to it: `SET a = 1, b = null` changes a and b
unfoldable pub changes_of : Statement → List (List ℕ × Change)
changes_of (statement.Insert i) = map inserted (zip i.columns i.values)
changes_of (statement.Update u) = map (λ a. (a.column, assigns a.value)) u.assignments
changes_of (statement.Delete d) = map (λ t. (t.column, deletes t.key)) d.targets
changes_of _ = []

-- ---- what columns are given and asked

-- what a statement has to do with a column: it changes it, compares it with a term, or shows something of it
pub data Mention : Type 0 where
  changes : Change → Mention
  compares : Term → Mention
  shows : Pick → Mention

-- what a SELECT shows of columns
unfoldable pub shown_by : Statement → List Pick
shown_by (statement.Select s) = picks_in s.picks
shown_by _ = []

-- each name with what is given to its column, or asked of it: `UPDATE t SET v = 1 WHERE k = 2` gives 1 to v, and compares k with 2
unfoldable pub terms_used : Statement → List (List ℕ × Mention)
terms_used s =
    map (λ p. (p.0, changes p.1)) (changes_of s)
    ++ (map (λ r. (r.column, compares r.value)) (relations_of s) ++ map (λ p. (picked_name p, shows p)) (shown_by s))
