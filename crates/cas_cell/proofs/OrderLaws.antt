-- The orders of cells, liveness and deletions are total, only equal values tie, and timestamps come first.
use Rattle.std.proofs.Common.{◌≡◌, ℤ, ◌<ℤ◌, ◌≤ℤ◌, true, false, refl, ap, arith}
use Rattle.std.specs.Prelude.{int_le}
use Rattle.std.proofs.lemmas.Bool.{true≢false}
use Rattle.std.proofs.lemmas.Int.{ints}
use Rattle.std.proofs.lemmas.Cmp.{then_total, on_total, nat_cmp_total, int_cmp_total, nat_list_cmp_total}
use Rattle.std.specs.declared.cmp.Ordering.{Ordering}
use Rattle.std.specs.declared.cmp.Ordering.TheVariants.{Less, Equal, Greater}
use Rattle.std.specs.Ordering.{is_lt, is_gt, ordering_then, int_cmp}
use Rattle.std.specs.FinMap.{IsAntisymmetric, nat_cmp-IsAntisymmetric, int_cmp-IsAntisymmetric, slice_cmp-IsAntisymmetric}
use Rattle.cas_types.specs.Orders.{Orders}
use Rattle.cas_types.specs.Values.{bytes_cmp}
use Rattle.cas_cell.specs.Deletions.{deletion_cmp}
use Rattle.cas_cell.specs.Lives.{live_cmp, live_at, live_rank, live_second, live_ttl}
use Rattle.cas_cell.specs.Cells.{cell_cmp, cell_at, cell_rank, cell_second, cell_value, cell_ttl}
use Rattle.cas_cell.specs.Laws.{ByTime, CellLaws, LiveLaws, DeletionLaws}
use Rattle.cas_cell.specs.declared.liveness.Liveness.{Liveness}
use Rattle.cas_cell.specs.declared.liveness.Liveness.TheVariants as live
use Rattle.cas_cell.specs.declared.cell.Cell.{Cell}
use Rattle.cas_cell.specs.declared.cell.Cell.TheVariants.{Plain, Expiring, Tombstone}

-- what ties on the whole ties at the first rung and at the rest
both_tie : (r s : Ordering) → ordering_then r s ≡ Equal → (r ≡ Equal) × (s ≡ Equal)
both_tie Less s e = absurd (true≢false (ap is_lt e))
both_tie Equal s e = (refl, e)
both_tie Greater s e = absurd (true≢false (ap is_gt e))

-- an order whose first rung is the timestamp
earlier_first : (t u : ℤ) (rest : Ordering) → t <ℤ u → ordering_then (int_cmp t u) rest ≡ Less
earlier_first t u rest h = grind (arith, ints)

below_first : (t u : ℤ) (rest : Ordering) → is_lt (ordering_then (int_cmp t u) rest) ≡ true → t ≤ℤ u
below_first t u rest e = grind (arith, ints)

above_first : (t u : ℤ) (rest : Ordering) → is_lt (ordering_then (int_cmp t u) rest) ≡ false → u ≤ℤ t
above_first t u rest e = grind (arith, ints)

bytes_ties : IsAntisymmetric bytes_cmp
bytes_ties = slice_cmp-IsAntisymmetric nat_cmp-IsAntisymmetric

cell_same : (x y : Cell) → cell_at x ≡ cell_at y → cell_rank x ≡ cell_rank y → cell_second x ≡ cell_second y → cell_value x ≡ cell_value y → cell_ttl x ≡ cell_ttl y → x ≡ y
cell_same (Plain a v) (Plain b w) at rank second value ttl = λ i. Plain (at i) (value i)
cell_same (Plain a v) (Expiring b f u w) at rank second value ttl = cc
cell_same (Plain a v) (Tombstone b s) at rank second value ttl = cc
cell_same (Expiring a e t v) (Plain b w) at rank second value ttl = cc
cell_same (Expiring a e t v) (Expiring b f u w) at rank second value ttl = λ i. Expiring (at i) (second i) (ttl i) (value i)
cell_same (Expiring a e t v) (Tombstone b s) at rank second value ttl = cc
cell_same (Tombstone a s) (Plain b w) at rank second value ttl = cc
cell_same (Tombstone a s) (Expiring b f u w) at rank second value ttl = cc
cell_same (Tombstone a s) (Tombstone b r) at rank second value ttl = λ i. Tombstone (at i) (second i)

cell_orders : Orders cell_cmp
cell_orders = record {
  total = then_total (on_total cell_at int_cmp_total) (then_total (on_total cell_rank nat_cmp_total) (then_total (on_total cell_second int_cmp_total) (then_total (on_total cell_value nat_list_cmp_total) (on_total cell_ttl nat_cmp_total))));
  ties = λ x y e.
      let (at, after_at) = both_tie _ _ e in
      let (rank, after_rank) = both_tie _ _ after_at in
      let (second, after_second) = both_tie _ _ after_rank in
      let (value, ttl) = both_tie _ _ after_second in
      cell_same x y (int_cmp-IsAntisymmetric _ _ at) (nat_cmp-IsAntisymmetric _ _ rank) (int_cmp-IsAntisymmetric _ _ second) (bytes_ties _ _ value) (nat_cmp-IsAntisymmetric _ _ ttl);
}

cell_by_time : ByTime cell_cmp cell_at
cell_by_time = record {
  earlier = λ x y h. earlier_first (cell_at x) (cell_at y) _ h;
  below = λ x y e. below_first (cell_at x) (cell_at y) _ e;
  above = λ x y e. above_first (cell_at x) (cell_at y) _ e;
}

pub cell_laws : CellLaws
cell_laws = record { orders = cell_orders; by_time = cell_by_time }

live_same : (x y : Liveness) → live_at x ≡ live_at y → live_rank x ≡ live_rank y → live_second x ≡ live_second y → live_ttl x ≡ live_ttl y → x ≡ y
live_same (live.Plain a) (live.Plain b) at rank second ttl = ap live.Plain at
live_same (live.Plain a) (live.Expiring b f u) at rank second ttl = cc
live_same (live.Expiring a e t) (live.Plain b) at rank second ttl = cc
live_same (live.Expiring a e t) (live.Expiring b f u) at rank second ttl = λ i. live.Expiring (at i) (second i) (ttl i)

live_orders : Orders live_cmp
live_orders = record {
  total = then_total (on_total live_at int_cmp_total) (then_total (on_total live_rank nat_cmp_total) (then_total (on_total live_second int_cmp_total) (on_total live_ttl nat_cmp_total)));
  ties = λ x y e.
      let (at, after_at) = both_tie _ _ e in
      let (rank, after_rank) = both_tie _ _ after_at in
      let (second, ttl) = both_tie _ _ after_rank in
      live_same x y (int_cmp-IsAntisymmetric _ _ at) (nat_cmp-IsAntisymmetric _ _ rank) (int_cmp-IsAntisymmetric _ _ second) (nat_cmp-IsAntisymmetric _ _ ttl);
}

live_by_time : ByTime live_cmp live_at
live_by_time = record {
  earlier = λ x y h. earlier_first (live_at x) (live_at y) _ h;
  below = λ x y e. below_first (live_at x) (live_at y) _ e;
  above = λ x y e. above_first (live_at x) (live_at y) _ e;
}

pub live_laws : LiveLaws
live_laws = record { orders = live_orders; by_time = live_by_time }

deletion_orders : Orders deletion_cmp
deletion_orders = record {
  total = then_total (on_total (λ d. d.at) int_cmp_total) (on_total (λ d. d.second) int_cmp_total);
  ties = λ x y e.
      let (at, second) = both_tie _ _ e in
      λ i. record { at = int_cmp-IsAntisymmetric x.at y.at at i; second = int_cmp-IsAntisymmetric x.second y.second second i };
}

deletion_by_time : ByTime deletion_cmp (λ d. d.at)
deletion_by_time = record {
  earlier = λ x y h. earlier_first x.at y.at _ h;
  below = λ x y e. below_first x.at y.at _ e;
  above = λ x y e. above_first x.at y.at _ e;
}

covered_on : (t u at : ℤ) → t ≤ℤ u → int_le at t ≡ true → int_le at u ≡ true
covered_on t u at h e = grind (arith, ints)

pub deletion_laws : DeletionLaws
deletion_laws = record {
  orders = deletion_orders;
  by_time = deletion_by_time;
  covers_more = λ lesser greater e at c. covered_on lesser.at greater.at at (deletion_by_time.below lesser greater e) c;
}
