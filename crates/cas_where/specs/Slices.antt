-- The slice of rows that a WHERE makes, and the order of a SELECT's rows.
-- CQL documentation, "Data manipulation: SELECT, the WHERE clause, ordering results". A bound by value is a bound by place,
-- the other way round where the column is DESC.
use Rattle.std.specs.Prelude.{ℕ, Bool, true, false, not, ◌&&◌, List, [], ◌∷◌, ◌++◌, Option, None, Some, if◌then◌else◌}
use Rattle.std.specs.Str.{bytes_eq}
use Rattle.std.specs.Option.{option_to_list}
use Rattle.std.specs.List.{find}
use Rattle.cas_types.specs.declared.schema.Column.{Column}
use Rattle.cas_bounds.specs.declared.order.Ordered.{Ordered}
use Rattle.cas_bounds.specs.declared.cuts.Cut.{Cut}
use Rattle.cas_bounds.specs.declared.cuts.Slice.{Slice}
use Rattle.cql_parse.specs.declared.syntax.Operator.{Operator}
use Rattle.cql_parse.specs.declared.syntax.Operator.TheVariants as operator
use Rattle.cql_parse.specs.declared.syntax.Relation.{Relation}
use Rattle.cql_parse.specs.declared.syntax.ColumnOrder.{ColumnOrder}
use Rattle.cas_types.specs.Schemas.{is_descending}
use Rattle.cas_bounds.specs.ClusteringOrder.{clustering_order}
use Rattle.cas_terms.specs.Columns.{clustering_columns}
use Rattle.cas_keys.specs.KeyTerms.{term_in_where, prefix_values, first_missing}
use Rattle.cas_terms.specs.Terms.{term_value}
use Rattle.cas_where.specs.Where.{is_lower, is_upper}

-- `<` and `>`: the bound itself lies outside
unfoldable pub is_strict : Operator → Bool
is_strict operator.Less = true
is_strict operator.Greater = true
is_strict _ = false

-- the bound is one at which the slice begins in the table's order: `c > 1` where c is ascending, and `c < 1` where it is DESC
unfoldable pub is_at_begin : Bool → Operator → Bool
is_at_begin descending o = if descending then is_upper o else is_lower o

-- the bound is one at which the slice ends
unfoldable pub is_at_end : Bool → Operator → Bool
is_at_end descending o = if descending then is_lower o else is_upper o

-- the cut before or after all rows that begin with the prefix
abbrev pub cut : List Ordered → List (List ℕ) → Bool → Cut
cut order prefix after = record { prefix = prefix; after = after; order = order }

-- the value that a bound compares with, after the prefix
abbrev pub bound_value : Column → Relation → List (List ℕ)
bound_value c r = option_to_list (term_value c.tag r.value)

-- where the slice begins or ends by a bound of the column; without a bound it has all that begins with the prefix
abbrev pub cut_by : List Ordered → List (List ℕ) → Column → Bool → Option Relation → Cut
cut_by order prefix c is_end None = cut order prefix is_end
cut_by order prefix c is_end (Some r) = cut order (prefix ++ bound_value c r) (if is_end then not (is_strict r.operator) else is_strict r.operator)

-- the bound is one at that side of the slice
abbrev pub is_at : Bool → Bool → Operator → Bool
is_at is_end descending o = if is_end then is_at_end descending o else is_at_begin descending o

-- where the slice begins or ends: by the first bound of the column that is one there, as `c > 1` at the begin and `c <= 5` at the end
unfoldable pub cut_at : Bool → List Ordered → List Relation → List (List ℕ) → Column → Cut
cut_at is_end order rs prefix c = cut_by order prefix c is_end (find (λ r. bytes_eq r.column c.name && is_at is_end (is_descending c.kind) r.operator) rs)

-- the rows with the prefix, of which a column may bound more
abbrev pub slice_with : List Ordered → List Relation → List (List ℕ) → Option Column → Slice
slice_with order rs prefix None = record { lo = cut order prefix false; hi = cut order prefix true }
slice_with order rs prefix (Some c) = record { lo = cut_at false order rs prefix c; hi = cut_at true order rs prefix c }

-- the rows that a WHERE leaves of its partition: the first clustering columns by `=` are the prefix, and the next one may be bounded
unfoldable pub slice_of : List Column → List Relation → Slice
slice_of cs rs =
    slice_with (clustering_order cs) rs (prefix_values (term_in_where rs) (clustering_columns cs)) (first_missing (term_in_where rs) (clustering_columns cs))

-- ---- ORDER BY

-- both or neither
abbrev pub same_truth : Bool → Bool → Bool
same_truth true b = b
same_truth false b = not b

-- an ORDER BY of the clustering columns from the first on, all in the table's order, or all reversed
unfoldable pub follows_order : Bool → List Column → List ColumnOrder → Bool
follows_order reversed cs [] = true
follows_order reversed [] (o ∷ os) = false
follows_order reversed (c ∷ cs) (o ∷ os) =
    bytes_eq c.name o.name
    && (same_truth (if reversed then not (is_descending c.kind) else is_descending c.kind) o.descending && follows_order reversed cs os)
