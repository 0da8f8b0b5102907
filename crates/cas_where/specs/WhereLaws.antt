-- What a WHERE means to the rows of its partition, said of each relation alone: a law over `slice_of`, which says it by two cuts.
-- CQL documentation, "Data manipulation: SELECT, the WHERE clause".
use Rattle.std.specs.Prelude.{◌≡◌, ℕ, Bool, true, false, not, ◌&&◌, ◌||◌, List, [], ◌∷◌, length, is_some}
use Rattle.std.specs.List.{list_all}
use Rattle.std.specs.Option.{option_map_or}
use Rattle.std.specs.Ordering.{is_lt, is_gt, is_eq}
use Rattle.std.specs.Str.{bytes_eq}
use Rattle.std.specs.declared.cmp.Ordering.{Ordering}
use Rattle.cas_types.specs.Values.{value_cmp}
use Rattle.cas_types.specs.declared.schema.Column.{Column}
use Rattle.cas_bounds.specs.Cuts.{is_inside}
use Rattle.cql_parse.specs.declared.syntax.Operator.{Operator}
use Rattle.cql_parse.specs.declared.syntax.Operator.TheVariants as operator
use Rattle.cql_parse.specs.declared.syntax.Relation.{Relation}
use Rattle.cas_terms.specs.Columns.{clustering_columns}
use Rattle.cas_terms.specs.Terms.{term_value}
use Rattle.cas_where.specs.Slices.{slice_of}
use Rattle.cas_where.specs.Where.{makes_slice}

-- the operator holds of two values that compare so: of 1 and 2 hold `<` and `<=`
abbrev pub operator_holds : Operator → Ordering → Bool
operator_holds operator.Equal r = is_eq r
operator_holds operator.Less r = is_lt r
operator_holds operator.AtMost r = not (is_gt r)
operator_holds operator.Greater r = is_gt r
operator_holds operator.AtLeast r = not (is_lt r)

-- the relation holds of the value of its column, by the order of the column's type, also where the column is DESC
abbrev pub relation_holds : Column → List ℕ → Relation → Bool
relation_holds c v r = option_map_or (λ b. operator_holds r.operator (value_cmp c.tag v b)) (term_value c.tag r.value) false

-- each relation on the column holds of its value
abbrev pub column_meets : List Relation → Column → List ℕ → Bool
column_meets rs c v = list_all (λ r. not (bytes_eq r.column c.name) || relation_holds c v r) rs

-- each relation on one of the columns holds of its value in the row: `c = 1 AND d > 2` of the row with c = 1 and d = 3
abbrev pub row_meets : List Relation → List Column → List (List ℕ) → Bool
row_meets rs [] vs = true
row_meets rs (c ∷ cs) [] = false
row_meets rs (c ∷ cs) (v ∷ vs) = column_meets rs c v && row_meets rs cs vs

-- what the columns are compared with are values of their types; else the statement is refused
abbrev pub compares_values : List Relation → List Column → Bool
compares_values rs cs = list_all (λ c. list_all (λ r. not (bytes_eq r.column c.name) || is_some (term_value c.tag r.value)) rs) cs

-- where a WHERE is one of a slice, a row of the table lies in the slice exactly where each relation on a clustering column holds of the row
abbrev pub SliceLaw : Type 0
SliceLaw =
    (cs : List Column) (rs : List Relation) (row : List (List ℕ)) → makes_slice rs (clustering_columns cs) ≡ true
    → compares_values rs (clustering_columns cs) ≡ true
    → length row ≡ length (clustering_columns cs) → is_inside (slice_of cs rs).lo (slice_of cs rs).hi row ≡ row_meets rs (clustering_columns cs) row
