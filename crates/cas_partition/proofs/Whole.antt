-- A slice from one end of a partition to the other is silent only where all of the partition is.
use Rattle.std.proofs.Common.{◌≡◌, ℕ, Bool, true, false, cond, not, ◌&&◌, Option, None, Some, List, [], ◌∷◌, ◌++◌, map, filter, refl, sym, ap, ◌∙◌, subst}
use Rattle.std.proofs.lemmas.Bool.{true≢false}
use Rattle.std.specs.Cmp.{Equal-is}
use Rattle.std.specs.List.{AllByRecursion}
use Rattle.std.specs.Ordering.{is_eq, is_lt}
use Rattle.std.specs.declared.cmp.Ordering.TheVariants.{Less}
use Rattle.cas_cell.specs.declared.deletion.Deletion.{Deletion}
use Rattle.cas_bounds.specs.Cuts.{prefixes_cmp}
use Rattle.cas_bounds.specs.Points.{point_cmp, ends_cmp, cut_point, side}
use Rattle.cas_bounds.specs.declared.order.Ordered.{Ordered}
use Rattle.cas_bounds.specs.declared.cuts.Cut.{Cut}
use Rattle.cas_bounds.specs.declared.cuts.Slice.{Slice}
use Rattle.cas_bounds.specs.declared.map_key.End.{End}
use Rattle.cas_bounds.specs.declared.map_key.End.TheVariants.{Before, Row, After}
use Rattle.cas_laws.proofs.GreatestProofs.{no_none}
use Rattle.cas_streams.specs.Flat.{Change, after, at_end}
use Rattle.cas_streams.specs.Slices.{stands_before, is_static, lies_in, force_behind, force_before, opened_at, closed_at, between_cuts, cut_to}
use Rattle.cas_streams.specs.Joined.{joined_fragment, fragment_cmp}
use Rattle.cas_streams.specs.declared.fragment.Fragment.{Fragment}
use Rattle.cas_streams.proofs.InOrder.{Rise}
use Rattle.cas_streams.proofs.Twins.{twins}
use Rattle.cas_streams.proofs.Weaves.{all_and, all_of}
use Rattle.cas_streams.proofs.Something.{Silent, Still, joined_from}
use Rattle.cas_partition.specs.Partitions.{marker}
use Rattle.cas_partition.specs.Slices.{grouped_from, meet_from, meet, Halves, few, both, pieces_in, rows_by}
use Rattle.cas_partition.proofs.Taking.{marked}

-- ---- rows that were put together

grouped_silent : (f : Fragment) (gs : List Fragment) → AllByRecursion Silent (grouped_from f gs) → AllByRecursion Silent (f ∷ gs)
grouped_silent f [] a = a
grouped_silent f (g ∷ gs) a =
    elim (is_eq (fragment_cmp f g)) as (λ b. is_eq (fragment_cmp f g) ≡ b → AllByRecursion Silent (cond b (grouped_from (joined_fragment f g) gs) (f ∷ grouped_from g gs)) → AllByRecursion Silent (f ∷ g ∷ gs)) [
      | true ↦ λ e h.
          let (p, q) = grouped_silent (joined_fragment f g) gs h in
          let (i, j) = joined_from f g (twins f g ((Equal-is (fragment_cmp f g)).0 e)) p in
          (i, (j, q))
      | false ↦ λ e h. (h.0, grouped_silent g gs h.1)
    ] refl a

meet_from_silent : (f : Fragment) (fs gs : List Fragment) → AllByRecursion Silent (meet_from f fs gs) → AllByRecursion Silent (f ∷ fs) × AllByRecursion Silent gs
meet_from_silent f [] [] a = (a, tt)
meet_from_silent f [] (g ∷ gs) a =
    let (x, y) = all_of Silent (grouped_from f (g ∷ [])) gs a in
    let (p, q) = grouped_silent f (g ∷ []) x in
    ((p, tt), (q.0, y))
meet_from_silent f (h ∷ fs) gs a = let (x, y) = meet_from_silent h fs gs a.1 in ((a.0, x), y)

meet_silent : (fs gs : List Fragment) → AllByRecursion Silent (meet fs gs) → AllByRecursion Silent fs × AllByRecursion Silent gs
meet_silent [] gs a = (tt, a)
meet_silent (f ∷ fs) gs a = meet_from_silent f fs gs a

pub halves_silent : (h : Halves) → AllByRecursion Silent (rows_by h) → AllByRecursion Silent (pieces_in h)
halves_silent (few []) a = tt
halves_silent (few (f ∷ fs)) a = grouped_silent f fs a
halves_silent (both a b) all =
    let (x, y) = meet_silent (rows_by a) (rows_by b) all in all_and Silent (pieces_in a) (pieces_in b) (halves_silent a x) (halves_silent b y)

-- ---- from one end to the other

-- what stands past any point isn't at the low end
past_low : (os : List Ordered) (e : End) (values prefix : List (List ℕ)) (b : Bool) → ends_cmp os e values (side b) prefix ≡ Less → is_lt (prefixes_cmp os [] false prefix b) ≡ true
past_low os e values (y ∷ ys) b below = refl
past_low os e values [] true below = refl
past_low os Before [] [] false below = absurd (true≢false (sym (ap is_lt below)))
past_low os Row [] [] false below = absurd (true≢false (sym (ap is_lt below)))
past_low os After [] [] false below = absurd (true≢false (sym (ap is_lt below)))
past_low os e (x ∷ xs) [] false below = absurd (true≢false (sym (ap is_lt below)))

-- nothing stands past the high end
past_high : (os order : List Ordered) (e : End) (values prefix : List (List ℕ)) (b : Bool) → is_lt (prefixes_cmp os [] false prefix b) ≡ true
    → (is_lt (prefixes_cmp os [] false prefix b) && is_lt (prefixes_cmp order prefix b [] true)) ≡ false → ends_cmp os (side b) prefix e values ≡ Less → ⊥
past_high os order e values (y ∷ ys) b above out below = true≢false out
past_high os order e values [] false above out below = true≢false (sym above)
past_high os order Before [] [] true above out below = true≢false (sym (ap is_lt below))
past_high os order Row [] [] true above out below = true≢false (sym (ap is_lt below))
past_high os order After [] [] true above out below = true≢false (sym (ap is_lt below))
past_high os order e (x ∷ xs) [] true above out below = true≢false (sym (ap is_lt below))

module _ (order : List Ordered) where
  abbrev low : Cut
  low = record { prefix = []; after = false; order = order }

  abbrev high : Cut
  high = record { prefix = []; after = true; order = order }

  abbrev pub whole : Slice
  whole = record { lo = low; hi = high }

  abbrev Above : List Change → Type 0
  Above ms = AllByRecursion (λ m. stands_before low m.at ≡ true) ms

  all_above : (k : Cut) (ms : List Change) → AllByRecursion (λ m. point_cmp order (cut_point k) (cut_point m.at) ≡ Less) ms → Above ms
  all_above k [] over = tt
  all_above k (m ∷ ms) over = (past_low order (side k.after) k.prefix m.at.prefix m.at.after over.0, all_above k ms over.1)

  -- where no change is at the low end, one that isn't between the ends is the last
  above_still : (now : Option Deletion) (ms : List Change) → Rise order ms → Above ms → AllByRecursion Silent (filter (lies_in whole) (map marker ms)) → at_end now ms ≡ None → Still ms
  above_still now [] rise above a closed = tt
  above_still now (m ∷ ms) rise above a closed =
      elim (lies_in whole (marker m)) as (λ b. lies_in whole (marker m) ≡ b
      → AllByRecursion Silent (cond b (marker m ∷ filter (lies_in whole) (map marker ms)) (filter (lies_in whole) (map marker ms))) → Still (m ∷ ms)) [
        | true ↦ λ e c. (c.0, above_still m.to ms rise.2 above.1 c.1 closed)
        | false ↦ λ e c. (last ms rise.1 e closed, above_still m.to ms rise.2 above.1 c closed)
      ] refl a
    where
      last : (ns : List Change) → AllByRecursion (λ n. point_cmp order (cut_point m.at) (cut_point n.at) ≡ Less) ns → lies_in whole (marker m) ≡ false → at_end m.to ns ≡ None → m.to ≡ None
      last [] over out closed = closed
      last (n ∷ ns) over out closed = absurd (past_high order m.at.order (side n.at.after) n.at.prefix m.at.prefix m.at.after above.0 out over.0)

  unpassed : (now : Option Deletion) (ms : List Change) → Above ms → after (λ k. not (stands_before low k)) now ms ≡ now
  unpassed now [] above = refl
  unpassed now (m ∷ ms) above = ap (λ b. after (λ k. not (stands_before low k)) (cond (not b) m.to now) ms) above.0 ∙ unpassed now ms above.1

  opened_still : (c : Cut) (d : Option Deletion) → AllByRecursion Silent (opened_at c d) → d ≡ None
  opened_still c None a = refl
  opened_still c (Some d) a = no_none d (sym (a.0))

  pub cut_still : (ms : List Change) → Rise order ms → at_end None ms ≡ None → AllByRecursion Silent (cut_to whole (map marker ms)) → Still ms
  cut_still [] rise closed a = tt
  cut_still (m ∷ ms) rise closed a =
      let fs : List Fragment = map marker (m ∷ ms) in
      let (x, y) = all_of Silent (filter is_static fs) (between_cuts whole fs) a in
      let (first, z) = all_of Silent (opened_at low (force_behind low fs)) (filter (lies_in whole) fs ++ closed_at high (force_before high fs)) y in
      let (amid, last) = all_of Silent (filter (lies_in whole) fs) (closed_at high (force_before high fs)) z in
      let begun : after (λ k. not (stands_before low k)) None (m ∷ ms) ≡ None =
      ap (after (λ k. not (stands_before low k)) None) (sym (marked (m ∷ ms))) ∙ opened_still low (force_behind low fs) first in
      let above : Above ms = all_above m.at ms rise.1 in
      elim (stands_before low m.at) as (λ b. stands_before low m.at ≡ b → Still (m ∷ ms)) [
        | true ↦ λ e. above_still None (m ∷ ms) rise (e, above) amid closed
        | false ↦ λ e. (
          sym (unpassed m.to ms above) ∙ sym (ap (λ b. after (λ k. not (stands_before low k)) (cond (not b) m.to None) ms) e) ∙ begun,
          above_still m.to ms rise.2 above
              (subst (λ b. AllByRecursion Silent (cond b (marker m ∷ filter (lies_in whole) (map marker ms)) (filter (lies_in whole) (map marker ms)))) (ap (λ b. b && stands_before m.at high) e) amid) closed,
        )
      ] refl
