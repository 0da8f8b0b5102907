-- Which rows a statement is of: the static row, one row, or a slice of rows.
-- CQL documentation, "Data manipulation: INSERT, UPDATE, DELETE" and "Data definition: static columns".
use Rattle.std.specs.Prelude.{ℕ, Bool, true, false, ◌&&◌, List, [], ◌∷◌, if◌then◌else◌}
use Rattle.std.specs.List.{list_all, list_any}
use Rattle.cas_types.specs.declared.schema.Column.{Column}
use Rattle.cql_parse.specs.declared.syntax.Statement.{Statement}
use Rattle.cql_parse.specs.declared.syntax.Statement.TheVariants as statement
use Rattle.cql_parse.specs.declared.syntax.Target.{Target}
use Rattle.cas_terms.specs.Columns.{names_static, names_partition}
use Rattle.cas_where.specs.declared.restrictions.Extent.{Extent}
use Rattle.cas_where.specs.declared.restrictions.Extent.TheVariants as extent

-- an INSERT that names static columns, and beside them the partition key alone, is one of the static row
unfoldable pub inserts_static : List Column → List (List ℕ) → Bool
inserts_static cs names = list_any (names_static cs) names && list_all (λ n. if names_partition cs n then true else names_static cs n) names

-- of the static row, or of one row
abbrev pub static_or_row : Bool → Extent
static_or_row true = extent.StaticRow
static_or_row false = extent.Row

-- DELETE FROM deletes rows; DELETE of static columns alone is of the static row, and DELETE of others of one row
abbrev pub deletes_in : List Column → List Target → Extent
deletes_in cs [] = extent.Slice
deletes_in cs (t ∷ ts) = static_or_row (list_all (λ x. names_static cs x.column) (t ∷ ts))

-- an INSERT and an UPDATE are of one row, or of the static row where they change static columns alone; a SELECT is of a slice of rows
unfoldable pub extent_of : List Column → Statement → Extent
extent_of cs (statement.Insert i) = static_or_row (inserts_static cs i.columns)
extent_of cs (statement.Update u) = static_or_row (list_all (λ a. names_static cs a.column) u.assignments)
extent_of cs (statement.Delete d) = deletes_in cs d.targets
extent_of cs _ = extent.Slice
