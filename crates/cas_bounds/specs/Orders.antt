-- The order of the rows of a partition.
-- CQL documentation, "Data definition: the clustering columns; clustering order"; what goes beyond the table's columns is own.
use Rattle.std.specs.Prelude.{ℕ, List, [], ◌∷◌, drop, if◌then◌else◌}
use Rattle.std.specs.declared.cmp.Ordering.{Ordering}
use Rattle.std.specs.declared.cmp.Ordering.TheVariants.{Less, Equal, Greater}
use Rattle.std.specs.Ordering.{flip_args, ordering_then}
use Rattle.cas_types.specs.Values.{bytes_cmp, value_cmp}
use Rattle.cas_bounds.specs.declared.order.Ordered.{Ordered}

-- the values of one clustering column: by the column's type, and the other way round where it is DESC
abbrev pub column_cmp : Ordered → List ℕ → List ℕ → Ordering
column_cmp o = if o.descending then flip_args (value_cmp o.tag) else value_cmp o.tag

-- the values of the first column; where no column is left, by their bytes (own)
abbrev pub first_cmp : List Ordered → List ℕ → List ℕ → Ordering
first_cmp [] = bytes_cmp
first_cmp (o ∷ os) = column_cmp o

-- clusterings column by column: the first difference decides, and what is longer is above (own)
abbrev pub values_cmp : List Ordered → List (List ℕ) → List (List ℕ) → Ordering
values_cmp order [] [] = Equal
values_cmp order [] (y ∷ ys) = Less
values_cmp order (x ∷ xs) [] = Greater
values_cmp order (x ∷ xs) (y ∷ ys) = ordering_then (first_cmp order x y) (values_cmp (drop 1 order) xs ys)
