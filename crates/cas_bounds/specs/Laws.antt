-- What holds of the orders of rows and of cuts, for every order of the clustering columns.
use Rattle.std.specs.Prelude.{◌≡◌, ◌↔◌, ℕ, Bool, true, false, IsTrue, List, length, take}
use Rattle.std.specs.Ordering.{is_lt, is_gt}
use Rattle.cas_types.specs.Orders.{Orders}
use Rattle.cas_bounds.specs.Orders.{values_cmp}
use Rattle.cas_bounds.specs.Cuts.{is_past, is_inside, cut_cmp}
use Rattle.cas_bounds.specs.Points.{point_cmp, row_point, cut_point}
use Rattle.cas_bounds.specs.declared.order.Ordered.{Ordered}
use Rattle.cas_bounds.specs.declared.cuts.Cut.{Cut}

-- a cut, without the order of its table
pub record Place : Type 0 where
  pub prefix : List (List ℕ)
  pub after : Bool

-- that cut, in a table that orders its rows so
abbrev pub cut_at : List Ordered → Place → Cut
cut_at order p = record { prefix = p.prefix; after = p.after; order = order }

-- rows: any two compare, and only the same values tie
abbrev pub RowOrders : Type 0
RowOrders = (order : List Ordered) → Orders (values_cmp order)

-- cuts of one order: any two compare, and only the same place ties
abbrev pub CutOrders : Type 0
CutOrders = (order : List Ordered) → Orders (λ p q. cut_cmp (cut_at order p) (cut_at order q))

-- a row past a cut is past each cut that is not above it
abbrev pub CutsDivideRows : Type 0
CutsDivideRows = (a b : Cut) (d : List (List ℕ)) → a.order ≡ b.order → is_gt (cut_cmp a b) ≡ false → IsTrue (is_past b d) → IsTrue (is_past a d)

-- between the cuts before and after a prefix lie the rows that begin with it
abbrev pub OwnPlaces : Type 0
OwnPlaces = (order : List Ordered) (q d : List (List ℕ)) →
    IsTrue (is_inside (cut_at order (record { prefix = q; after = false })) (cut_at order (record { prefix = q; after = true })) d) ↔ (take (length q) d ≡ q)

-- rows and cuts are points of one order: it is total, rows and cuts compare as their points do, and a row is past a cut exactly where the cut's point
-- is below the row's
pub record PointLaws : Type 0 where
  pub orders : (order : List Ordered) → Orders (point_cmp order)
  pub rows : (order : List Ordered) (c d : List (List ℕ)) → values_cmp order c d ≡ point_cmp order (row_point c) (row_point d)
  pub cuts : (a b : Cut) → cut_cmp a b ≡ point_cmp a.order (cut_point a) (cut_point b)
  pub past : (cut : Cut) (c : List (List ℕ)) → is_past cut c ≡ is_lt (point_cmp cut.order (cut_point cut) (row_point c))
