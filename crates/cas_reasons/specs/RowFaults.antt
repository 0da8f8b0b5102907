-- What can be wrong with an INSERT, UPDATE, DELETE or SELECT, in the order in which it is told. What can be wrong with
-- what it says of columns stands in ColumnFaults of cas_mentions.
-- CQL documentation, "Data manipulation: INSERT, UPDATE, DELETE, SELECT".
use Rattle.std.specs.Prelude.{ℕ, ℤ, pos, nat_lt, Bool, true, false, not, ◌&&◌, ◌||◌, List, length, Option, None, Some, is_some}
use Rattle.std.specs.Option.{option_map_or}
use Rattle.std.specs.List.{filter_map, list_any}
use Rattle.std.specs.Str.{bytes_eq}
use Rattle.cas_types.specs.declared.schema.Column.{Column}
use Rattle.cql_parse.specs.declared.syntax.Statement.{Statement}
use Rattle.cql_parse.specs.declared.syntax.Statement.TheVariants as statement
use Rattle.cql_parse.specs.declared.syntax.Assignment.{Assignment}
use Rattle.cql_parse.specs.declared.syntax.ColumnOrder.{ColumnOrder}
use Rattle.cql_parse.specs.declared.syntax.Select.{Select}
use Rattle.cql_parse.specs.declared.syntax.Use.{Use}
use Rattle.cas_terms.specs.Columns.{names_key, partition_columns, clustering_columns}
use Rattle.cas_terms.specs.Constants.{is_in_range, gives_no_bytes}
use Rattle.cas_reasons.specs.Extents.{extent_of}
use Rattle.cas_where.specs.KeyTerms.{value_in}
use Rattle.cas_where.specs.Keys.{sole_column, restricts_to_empty, compares_key_with_null, lacks_partition, lacks_clustering}
use Rattle.cas_where.specs.Slices.{follows_order}
use Rattle.cas_reasons.specs.Statements.{relations_of, timestamp_of, ttl_of, key_terms_of, other_name}
use Rattle.cas_where.specs.Where.{restricts}
use Rattle.cas_types.specs.declared.limits.TheConstants.{ROW_LIMIT}
use Rattle.cas_where.specs.declared.restrictions.Extent.{Extent}
use Rattle.cas_where.specs.declared.restrictions.Extent.TheVariants as extent
pub use Rattle.cas_mentions.specs.ColumnFaults.{changes_twice, has_other_count, target_fits, has_writetime, pick_fits, mention_fits, is_of_another_type}

-- ---- numbers

-- TIMESTAMP or TTL stands twice after USING
unfoldable pub uses_twice : List Use → Bool
uses_twice uses = nat_lt 1 (length (filter_map timestamp_of uses)) || nat_lt 1 (length (filter_map ttl_of uses))

-- a number that is there, and isn't between the two
unfoldable pub is_outside : ℤ → ℤ → Option ℤ → Bool
is_outside least greatest None = false
is_outside least greatest (Some n) = not (is_in_range least greatest n)

-- ---- keys

-- the column is given a value without bytes: by the INSERT's value, or by any `=` of the WHERE
unfoldable pub gives_empty : Statement → Column → Bool
gives_empty (statement.Insert i) c = gives_no_bytes (value_in (key_terms_of (statement.Insert i)) c)
gives_empty s c = restricts_to_empty (relations_of s) c

-- a partition key without bytes, as of `WHERE k = ''`
unfoldable pub gives_empty_key : List Column → Statement → Bool
gives_empty_key cs s = option_map_or (gives_empty s) (sole_column (partition_columns cs)) false

-- of one row
abbrev pub is_row : Extent → Bool
is_row extent.Row = true
is_row _ = false

-- a column of the partition key has no value, or a clustering column where the statement is of one row; or a key column is compared with null
unfoldable pub lacks_key : List Column → Statement → Bool
lacks_key cs s =
    lacks_partition (key_terms_of s) cs
    || (compares_key_with_null cs (relations_of s) || (is_row (extent_of cs s) && lacks_clustering (key_terms_of s) cs))

-- ---- restrictions

-- there is a name, and it isn't this one
abbrev pub is_another : List ℕ → Option (List ℕ) → Bool
is_another n None = false
is_another n (Some m) = not (bytes_eq m n)

-- an assignment of a key column, or by the value of another column: `SET k = 1`, `SET l = m + [1]`
unfoldable pub assigns_key_or_other : List Column → Assignment → Bool
assigns_key_or_other cs a = names_key cs a.column || is_another a.column (other_name a.value)

-- ORDER BY neither follows the table's order nor reverses it
unfoldable pub follows_no_order : List Column → List ColumnOrder → Bool
follows_no_order cs os = not (follows_order false (clustering_columns cs) os || follows_order true (clustering_columns cs) os)

-- a LIMIT is from 1 to 2^31-1; AFTER and PAGE are of a SELECT without WHERE, which lacks the partition key
unfoldable pub reads_outside_limits : List Column → Select → Bool
reads_outside_limits cs s = follows_no_order cs s.order || (is_outside (pos 1) (pos ROW_LIMIT) s.limit || (is_some s.after || is_some s.page))

-- a WHERE, ORDER BY or LIMIT that the statement can't have, or a change of a key column; an INSERT has none of these
unfoldable pub has_bad_restriction : List Column → Statement → Bool
has_bad_restriction cs (statement.Update u) =
    list_any (assigns_key_or_other cs) u.assignments || not (restricts (extent_of cs (statement.Update u)) cs u.relations)
has_bad_restriction cs (statement.Delete d) =
    list_any (λ t. names_key cs t.column) d.targets || not (restricts (extent_of cs (statement.Delete d)) cs d.relations)
has_bad_restriction cs (statement.Select s) = not (restricts extent.Slice cs s.relations) || reads_outside_limits cs s
has_bad_restriction cs _ = false
