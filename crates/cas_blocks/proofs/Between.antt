-- Between a row and the cut before it nothing stands: so what a block's first cut tells of a slice, its first fragment does.
use Rattle.std.proofs.Common.{◌≡◌, ℕ, true, false, None, Some, List, [], ◌∷◌, length, drop, refl, sym, ap, ◌∙◌, arith}
use Rattle.std.proofs.lemmas.Bool.{true≢false, and_parts}
use Rattle.std.proofs.lemmas.List.{take_all}
use Rattle.std.specs.Ordering.{is_lt, is_gt, ordering_reverse, ordering_then, nat_cmp}
use Rattle.std.specs.declared.cmp.Ordering.{Ordering}
use Rattle.std.specs.declared.cmp.Ordering.TheVariants.{Less, Equal, Greater}
use Rattle.cas_bounds.specs.Cuts.{is_past}
use Rattle.cas_bounds.specs.Orders.{first_cmp}
use Rattle.cas_bounds.specs.Points.{Point, rank, ends_cmp, point_cmp, row_point, cut_point}
use Rattle.cas_bounds.specs.Laws.{cut_at}
use Rattle.cas_bounds.specs.declared.map_key.End.{End}
use Rattle.cas_bounds.specs.declared.map_key.End.TheVariants as end
use Rattle.cas_bounds.specs.declared.order.Ordered.{Ordered}
use Rattle.cas_bounds.specs.declared.cuts.Cut.{Cut}
use Rattle.cas_bounds.proofs.CutLaws.{point_laws, own_places}
use Rattle.cas_streams.specs.Places.{Place, place_of, place_cmp}
use Rattle.cas_streams.specs.Streams.{IsOf}
use Rattle.cas_streams.specs.Slices.{stands_before, is_static}
use Rattle.cas_streams.specs.declared.fragment.Fragment.{Fragment}
use Rattle.cas_streams.specs.declared.fragment.Fragment.TheVariants as fragment
use Rattle.cas_streams.proofs.Forces.{places_total}
use Rattle.cas_tables.specs.Places.{first_cut}
use Rattle.cas_blocks.specs.Cutting.{is_behind, is_before}
use Rattle.cas_blocks.proofs.CutLaws.{is_less, never_true, row_no_cut, stands}

-- the cut before a row, as a point
abbrev before_row : List (List ℕ) → Point
before_row d = record { end = end.Before; values = d }

no_values : (m : End) → nat_cmp 0 (rank m) ≡ Less → is_gt (nat_cmp 1 (rank m)) ≡ false
no_values end.Before e = absurd cc
no_values end.Row e = refl
no_values end.After e = refl

-- what is above the cut before a row isn't below the row
nothing_between : (os : List Ordered) (m : End) (d a : List (List ℕ)) → ends_cmp os end.Before d m a ≡ Less → is_gt (ends_cmp os end.Row d m a) ≡ false
nothing_between os m [] [] e = no_values m e
nothing_between os m [] (y ∷ ys) e = refl
nothing_between os m (x ∷ xs) [] e = ap is_gt e
nothing_between os m (x ∷ xs) (y ∷ ys) e = decided (first_cmp os x y) (ends_cmp (drop 1 os) end.Before xs m ys) (ends_cmp (drop 1 os) end.Row xs m ys)
    (λ less. nothing_between (drop 1 os) m xs ys less) e
  where
    decided : (r a b : Ordering) → (a ≡ Less → is_gt b ≡ false) → ordering_then r a ≡ Less → is_gt (ordering_then r b) ≡ false
    decided Less a b later e = refl
    decided Equal a b later e = later e
    decided Greater a b later e = absurd cc

no_greater : (r : Ordering) → is_gt (ordering_reverse r) ≡ false → r ≡ Less → ⊥
no_greater r e is = true≢false (sym (ap (λ t. is_gt (ordering_reverse t)) is) ∙ e)

module _ (order : List Ordered) where
  not_below_row : (d : List (List ℕ)) (p : Point) → point_cmp order (before_row d) p ≡ Less → point_cmp order p (row_point d) ≡ Less → ⊥
  not_below_row d p e below =
      no_greater (point_cmp order p (row_point d))
      (ap is_gt (sym ((point_laws.orders order).total.antisymm (row_point d) p)) ∙ nothing_between order p.end d p.values e) below

  -- the cut before a row stands before it
  cut_below : (d : List (List ℕ)) → point_cmp order (before_row d) (row_point d) ≡ Less
  cut_below d =
      let cut : Cut = cut_at order (record { prefix = d; after = false }) in
      let whole = take_all (length d) d (omega arith) in
      is_less (point_cmp order (before_row d) (row_point d)) (sym (point_laws.past cut d) ∙ (and_parts (is_past cut d) _ ((own_places order d d).1 whole)).0)

  nothing_first : (p : Place) → place_cmp order p None ≡ Less → ⊥
  nothing_first None e = cc
  nothing_first (Some p) e = cc

  -- at or below
  not_above : (p q : Point) (r : Point) → is_lt (point_cmp order p q) ≡ false → point_cmp order p r ≡ Less → point_cmp order q r ≡ Less
  not_above p q r no_less less = go (point_cmp order p q) refl
    where
      go : (t : Ordering) → point_cmp order p q ≡ t → point_cmp order q r ≡ Less
      go Less is = absurd (true≢false (sym (ap is_lt is) ∙ no_less))
      go Equal is = sym ((point_laws.orders order).total.congr p q r is) ∙ less
      go Greater is = (point_laws.orders order).total.trans q p r ((point_laws.orders order).total.antisymm q p ∙ ap ordering_reverse is) less

  -- before a fragment whose cut isn't above another one nothing is behind that
  pub not_behind_front : (lo : Cut) (f g : Fragment) → lo.order ≡ order → place_cmp order (place_of f) (place_of g) ≡ Less
      → stands_before lo (first_cut g) ≡ false → is_behind order lo f ≡ false
  not_behind_front lo f (fragment.Static cs) of up low = absurd (nothing_first (place_of f) up)
  not_behind_front lo f (fragment.Marker k d) of up low = never_true (is_behind order lo f) (λ h. true≢false (sym (
      stands order lo k of
      ∙ ap is_lt ((places_total order).trans (Some (cut_point lo)) (place_of f) (Some (cut_point k)) (is_less (place_cmp order (Some (cut_point lo)) (place_of f)) h) up)) ∙ low))
  not_behind_front lo f (fragment.Row r) of up low =
      never_true (is_behind order lo f) (λ h. go (place_of f) (is_less (place_cmp order (Some (cut_point lo)) (place_of f)) h) up)
    where
      go : (p : Place) → place_cmp order (Some (cut_point lo)) p ≡ Less → place_cmp order p (Some (row_point r.clustering.values)) ≡ Less → ⊥
      go None a b = cc
      go (Some p) a b = not_below_row r.clustering.values p
          (not_above (cut_point lo) (before_row r.clustering.values) p (sym (stands order lo (first_cut (fragment.Row r)) of) ∙ low) a) b

  -- a fragment whose cut is below another one stands before that
  pub begins_is_before : (hi : Cut) (g : Fragment) → hi.order ≡ order → IsOf order g → stands_before (first_cut g) hi ≡ true → is_before order hi g ≡ true
  begins_is_before hi (fragment.Static cs) of is e = refl
  begins_is_before hi (fragment.Marker k d) of is e = sym (stands order k hi is) ∙ e
  begins_is_before hi (fragment.Row r) of is e = go (point_cmp order (row_point r.clustering.values) (cut_point hi)) refl
    where
      cut : point_cmp order (before_row r.clustering.values) (cut_point hi) ≡ Less
      cut = is_less (point_cmp order (before_row r.clustering.values) (cut_point hi)) (sym (stands order (first_cut (fragment.Row r)) hi is) ∙ e)

      go : (t : Ordering) → point_cmp order (row_point r.clustering.values) (cut_point hi) ≡ t → is_lt (point_cmp order (row_point r.clustering.values) (cut_point hi)) ≡ true
      go Less p = ap is_lt p
      go Equal p = absurd (row_no_cut hi r.clustering.values (sym ((point_laws.orders order).ties (row_point r.clustering.values) (cut_point hi) p)))
      go Greater p = absurd (true≢false (sym (ap is_gt p) ∙ nothing_between order (cut_point hi).end r.clustering.values (cut_point hi).values cut))

  -- and the other way
  pub before_begins : (hi : Cut) (g : Fragment) → IsOf order g → is_static g ≡ false → is_before order hi g ≡ true → stands_before (first_cut g) hi ≡ true
  before_begins hi (fragment.Static cs) of row e = absurd (true≢false row)
  before_begins hi (fragment.Marker k d) of row e = stands order k hi of ∙ e
  before_begins hi (fragment.Row r) of row e =
      stands order (first_cut (fragment.Row r)) hi of
      ∙ ap is_lt ((point_laws.orders order).total.trans (before_row r.clustering.values) (row_point r.clustering.values) (cut_point hi)
      (cut_below r.clustering.values) (is_less (point_cmp order (row_point r.clustering.values) (cut_point hi)) e))

  -- a fragment whose cut is above another one is behind that
  pub begins_is_behind : (lo : Cut) (g : Fragment) → lo.order ≡ order → is_static g ≡ false → stands_before lo (first_cut g) ≡ true → is_behind order lo g ≡ true
  begins_is_behind lo (fragment.Static cs) of row e = absurd (true≢false row)
  begins_is_behind lo (fragment.Marker k d) of row e = sym (stands order lo k of) ∙ e
  begins_is_behind lo (fragment.Row r) of row e =
      ap is_lt ((point_laws.orders order).total.trans (cut_point lo) (before_row r.clustering.values) (row_point r.clustering.values)
      (is_less (point_cmp order (cut_point lo) (before_row r.clustering.values)) (sym (stands order lo (first_cut (fragment.Row r)) of) ∙ e))
      (cut_below r.clustering.values))
