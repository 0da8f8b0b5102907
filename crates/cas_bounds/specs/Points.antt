-- Rows and cuts in one order: each is a point, some values with an end.
-- Own. Where the values stop, a row's end and the end of a cut that stands before are below any further value, and that of a cut that stands after is
-- above it.
use Rattle.std.specs.Prelude.{ℕ, Bool, true, false, List, [], ◌∷◌, drop}
use Rattle.std.specs.declared.cmp.Ordering.{Ordering}
use Rattle.std.specs.declared.cmp.Ordering.TheVariants.{Less, Greater}
use Rattle.std.specs.Ordering.{nat_cmp, ordering_then, ordering_reverse}
use Rattle.cas_bounds.specs.Orders.{first_cmp}
use Rattle.cas_bounds.specs.declared.order.Ordered.{Ordered}
use Rattle.cas_bounds.specs.declared.cuts.Cut.{Cut}
use Rattle.cas_bounds.specs.declared.map_key.End.{End}
use Rattle.cas_bounds.specs.declared.map_key.End.TheVariants.{Before, Row, After}

-- at the same values a cut before them is below their row, and that is below a cut after them
abbrev pub rank : End → ℕ
rank Before = 0
rank Row = 1
rank After = 2

-- an end against a further value
abbrev pub beside : End → Ordering
beside Before = Less
beside Row = Less
beside After = Greater

-- the first difference of the values decides, and then the ends
abbrev pub ends_cmp : List Ordered → End → List (List ℕ) → End → List (List ℕ) → Ordering
ends_cmp os m [] n [] = nat_cmp (rank m) (rank n)
ends_cmp os m [] n (y ∷ ys) = beside m
ends_cmp os m (x ∷ xs) n [] = ordering_reverse (beside n)
ends_cmp os m (x ∷ xs) n (y ∷ ys) = ordering_then (first_cmp os x y) (ends_cmp (drop 1 os) m xs n ys)

-- a point of a partition
pub record Point : Type 0 where
  pub end : End
  pub values : List (List ℕ)

-- points of a table that orders its rows so
abbrev pub point_cmp : List Ordered → Point → Point → Ordering
point_cmp os p q = ends_cmp os p.end p.values q.end q.values

-- the point of a row
abbrev pub row_point : List (List ℕ) → Point
row_point values = record { end = Row; values = values }

-- the side on which a cut stands
abbrev pub side : Bool → End
side false = Before
side true = After

-- the point of a cut
abbrev pub cut_point : Cut → Point
cut_point cut = record { end = side cut.after; values = cut.prefix }
