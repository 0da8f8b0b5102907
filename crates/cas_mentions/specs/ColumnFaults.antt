-- What can be wrong with what a statement says of columns: something is said twice, or isn't of its column's type.
-- CQL documentation, "Data manipulation: INSERT, UPDATE, DELETE, SELECT".
use Rattle.std.specs.Prelude.{ℕ, ◌==◌, Bool, true, false, not, ◌&&◌, List, length, Option, None, Some}
use Rattle.std.specs.Ordering.{int_eq}
use Rattle.std.specs.Option.{option_map_or}
use Rattle.std.specs.Str.{bytes_eq}
use Rattle.cas_types.specs.Schemas.{is_key, is_plain, is_map}
use Rattle.cas_types.specs.declared.schema.Column.{Column}
use Rattle.cql_parse.specs.declared.term.Constant.{Constant}
use Rattle.cql_parse.specs.declared.term.Constant.TheVariants as constant
use Rattle.cql_parse.specs.declared.syntax.Statement.{Statement}
use Rattle.cql_parse.specs.declared.syntax.Statement.TheVariants as statement
use Rattle.cql_parse.specs.declared.syntax.Assigned.TheVariants as assigned
use Rattle.cql_parse.specs.declared.syntax.Pick.{Pick}
use Rattle.cql_parse.specs.declared.syntax.Pick.TheVariants as pick
use Rattle.cas_terms.specs.Columns.{column_named}
use Rattle.cas_terms.specs.Names.{any_two}
use Rattle.cas_terms.specs.Terms.{term_fits, assigned_fits, key_fits}
use Rattle.cas_mentions.specs.Mentions.{Change, assigns, deletes, Mention, changes, compares, shows}

-- ---- what is said twice

-- constants of one kind that are equal: 1 and 01, but not 1 and '1'
unfoldable pub is_same_constant : Constant → Constant → Bool
is_same_constant (constant.Text t) (constant.Text u) = bytes_eq t u
is_same_constant (constant.Number m) (constant.Number n) = int_eq m n
is_same_constant (constant.Blob b) (constant.Blob d) = bytes_eq b d
is_same_constant (constant.Uuid u) (constant.Uuid v) = bytes_eq u v
is_same_constant (constant.Boolean true) (constant.Boolean b) = b
is_same_constant (constant.Boolean false) (constant.Boolean b) = not b
is_same_constant _ _ = false

-- two entries, of different keys
abbrev pub are_other_entries : Option Constant → Option Constant → Bool
are_other_entries (Some k) (Some l) = not (is_same_constant k l)
are_other_entries _ _ = false

-- the key of the one entry that is changed, as of `m[1] = 'a'` and `DELETE m[1]`
unfoldable pub entry_key : Change → Option Constant
entry_key (assigns (assigned.Entry k t)) = Some k
entry_key (assigns _) = None
entry_key (deletes k) = k

-- the name is that of a map
abbrev pub names_map : List Column → List ℕ → Bool
names_map cs n = option_map_or (λ c. is_map c.shape) (column_named cs n) false

-- both change one column, and aren't of different entries of a map: `SET v = 1, v = 2` but not `SET m[1] = 'a', m[2] = 'b'`
unfoldable pub change_the_same : List Column → List ℕ × Change → List ℕ × Change → Bool
change_the_same cs p q = bytes_eq p.0 q.0 && not (names_map cs p.0 && are_other_entries (entry_key p.1) (entry_key q.1))

-- something is changed twice
abbrev pub changes_twice : List Column → List (List ℕ × Change) → Bool
changes_twice cs ps = any_two (change_the_same cs) ps

-- an INSERT has more or fewer values than columns
unfoldable pub has_other_count : Statement → Bool
has_other_count (statement.Insert i) = not (length i.columns == length i.values)
has_other_count _ = false

-- ---- types

-- only an entry of a map has a key, and it is of the map's keys' type
abbrev pub target_fits : Column → Option Constant → Bool
target_fits c None = true
target_fits c (Some k) = key_fits c k

-- WRITETIME and TTL are of columns with one value that aren't of the primary key
abbrev pub has_writetime : Column → Bool
has_writetime c = is_plain c.shape && not (is_key c.kind)

-- each column has a value to be shown
unfoldable pub pick_fits : Column → Pick → Bool
pick_fits c (pick.Value n) = true
pick_fits c _ = has_writetime c

-- the column can be given this, compared with it, or asked for it
unfoldable pub mention_fits : Column → Mention → Bool
mention_fits c (changes (assigns a)) = assigned_fits c a
mention_fits c (changes (deletes k)) = target_fits c k
mention_fits c (compares t) = term_fits c t
mention_fits c (shows p) = pick_fits c p

-- what the name's column is given or asked isn't of its type, as `SET v = 'a'` where v is an int
unfoldable pub is_of_another_type : List Column → List ℕ × Mention → Bool
is_of_another_type cs p = option_map_or (λ c. not (mention_fits c p.1)) (column_named cs p.0) false
