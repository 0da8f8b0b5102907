-- A stream cut fragment by fragment is the stream cut to the slice.
use Rattle.std.proofs.Common.{◌≡◌, ℕ, Bool, true, false, not, ◌&&◌, cond, Option, None, Some, List, [], ◌∷◌, ◌++◌, filter, refl, sym, ap, ◌∙◌}
use Rattle.std.proofs.lemmas.Bool.{true≢false}
use Rattle.std.specs.List.{AllByRecursion}
use Rattle.std.specs.Ordering.{is_lt, ordering_reverse}
use Rattle.std.specs.declared.cmp.Ordering.{Ordering}
use Rattle.std.specs.declared.cmp.Ordering.TheVariants.{Less, Equal, Greater}
use Rattle.cas_cell.specs.declared.deletion.Deletion.{Deletion}
use Rattle.cas_bounds.specs.Cuts.{is_past}
use Rattle.cas_bounds.specs.Points.{point_cmp, row_point, cut_point, side}
use Rattle.cas_bounds.specs.declared.map_key.End.{End}
use Rattle.cas_bounds.specs.declared.map_key.End.TheVariants as end
use Rattle.cas_bounds.specs.declared.order.Ordered.{Ordered}
use Rattle.cas_bounds.specs.declared.cuts.Cut.{Cut}
use Rattle.cas_bounds.specs.declared.cuts.Slice.{Slice}
use Rattle.cas_bounds.proofs.CutLaws.{point_laws}
use Rattle.cas_streams.specs.Places.{place_of, place_cmp}
use Rattle.cas_streams.specs.Flat.{changes, after}
use Rattle.cas_streams.specs.Joined.{opened}
use Rattle.cas_streams.specs.Streams.{IsOf}
use Rattle.cas_streams.specs.Slices.{IsSliceOf, stands_before, is_static, lies_in, opened_at, closed_at, between_cuts}
use Rattle.cas_streams.specs.declared.fragment.Fragment.{Fragment}
use Rattle.cas_streams.specs.declared.fragment.Fragment.TheVariants as fragment
use Rattle.cas_streams.proofs.Forces.{places_total, Stopped, stopped}
use Rattle.cas_streams.proofs.Cutting.{filter_none}
use Rattle.cas_streams.proofs.Weaves.{Ascend, ascend_by_keys}
use Rattle.cas_blocks.specs.Cutting.{is_behind, is_before, up_to_end, cut_from}
use Rattle.cas_blocks.specs.Laws.{CutsAreOne}

-- ---- tests

pub is_less : (r : Ordering) → is_lt r ≡ true → r ≡ Less
is_less Less e = refl
is_less Equal e = absurd (true≢false (sym e))
is_less Greater e = absurd (true≢false (sym e))

pub never_true : (b : Bool) → (b ≡ true → ⊥) → b ≡ false
never_true true f = absurd (f refl)
never_true false f = refl

never_false : (b : Bool) → (b ≡ false → ⊥) → b ≡ true
never_false true f = refl
never_false false f = absurd (f refl)

is_row_end : End → Bool
is_row_end end.Before = false
is_row_end end.Row = true
is_row_end end.After = false

side_no_row : (b : Bool) → is_row_end (side b) ≡ false
unfolding is_row_end
side_no_row true = refl
side_no_row false = refl

pub row_no_cut : (k : Cut) (c : List (List ℕ)) → cut_point k ≡ row_point c → ⊥
unfolding is_row_end
row_no_cut k c e = true≢false (sym (ap (λ p. is_row_end p.end) e) ∙ side_no_row k.after)

turned : (r : Ordering) → (r ≡ Equal → ⊥) → not (is_lt r) ≡ is_lt (ordering_reverse r)
turned Less f = refl
turned Equal f = absurd (f refl)
turned Greater f = refl

module _ (order : List Ordered) where
  -- cuts by their points
  pub stands : (a b : Cut) → a.order ≡ order → stands_before a b ≡ is_lt (point_cmp order (cut_point a) (cut_point b))
  stands a b e = ap is_lt (point_laws.cuts a b ∙ ap (λ o. point_cmp o (cut_point a) (cut_point b)) e)

  pub past_is : (cut : Cut) (c : List (List ℕ)) → cut.order ≡ order → is_past cut c ≡ is_lt (point_cmp order (cut_point cut) (row_point c))
  past_is cut c e = point_laws.past cut c ∙ ap (λ o. is_lt (point_cmp o (cut_point cut) (row_point c))) e

  -- a row isn't past a cut exactly where it stands before it
  not_past_is : (cut : Cut) (c : List (List ℕ)) → cut.order ≡ order → not (is_past cut c) ≡ is_lt (point_cmp order (row_point c) (cut_point cut))
  not_past_is cut c e =
      ap not (past_is cut c e)
      ∙ turned (point_cmp order (cut_point cut) (row_point c)) (λ tie. row_no_cut cut c ((point_laws.orders order).ties (cut_point cut) (row_point c) tie))
      ∙ ap is_lt (sym ((point_laws.orders order).total.antisymm (row_point c) (cut_point cut)))

  -- what stands behind what is behind a cut is behind it; what stands behind what isn't before a cut isn't before it
  pub behind_later : (cut : Cut) (f g : Fragment) → place_cmp order (place_of f) (place_of g) ≡ Less → is_behind order cut f ≡ true → is_behind order cut g ≡ true
  behind_later cut f g e b =
      ap is_lt ((places_total order).trans (Some (cut_point cut)) (place_of f) (place_of g) (is_less (place_cmp order (Some (cut_point cut)) (place_of f)) b) e)

  pub before_earlier : (cut : Cut) (f g : Fragment) → place_cmp order (place_of f) (place_of g) ≡ Less → is_before order cut f ≡ false → is_before order cut g ≡ false
  before_earlier cut f g e b = never_true (is_before order cut g) (λ h. true≢false (sym (
      ap is_lt ((places_total order).trans (place_of f) (place_of g) (Some (cut_point cut)) e (is_less (place_cmp order (place_of g) (Some (cut_point cut))) h))) ∙ b))

  all_behind : (cut : Cut) (f : Fragment) (fs : List Fragment) → is_behind order cut f ≡ true
      → AllByRecursion (λ g. place_cmp order (place_of f) (place_of g) ≡ Less) fs → AllByRecursion (λ g. is_behind order cut g ≡ true) fs
  all_behind cut f [] b all = tt
  all_behind cut f (g ∷ gs) b all = (behind_later cut f g all.0 b, all_behind cut f gs b all.1)

  none_before : (cut : Cut) (f : Fragment) (fs : List Fragment) → is_before order cut f ≡ false
      → AllByRecursion (λ g. place_cmp order (place_of f) (place_of g) ≡ Less) fs → AllByRecursion (λ g. is_before order cut g ≡ false) fs
  none_before cut f [] b all = tt
  none_before cut f (g ∷ gs) b all = (before_earlier cut f g all.0 b, none_before cut f gs b all.1)

  -- ---- a slice

  module _ (s : Slice) (slice : IsSliceOf order s) where
    -- what lies in the slice is behind its low cut and before its high one
    lies : (f : Fragment) → IsOf order f → lies_in s f ≡ is_behind order s.lo f && is_before order s.hi f
    lies (fragment.Static cs) of = refl
    lies (fragment.Row r) of =
        ap (λ b. b && not (is_past s.hi r.clustering.values)) (past_is s.lo r.clustering.values slice.lo)
        ∙ ap (λ b. is_behind order s.lo (fragment.Row r) && b) (not_past_is s.hi r.clustering.values slice.hi)
    lies (fragment.Marker k d) of =
        ap (λ b. b && stands_before k s.hi) (stands s.lo k slice.lo)
        ∙ ap (λ b. is_behind order s.lo (fragment.Marker k d) && b) (stands k s.hi of)

    -- one that isn't behind the low cut, or isn't before the high one, lies outside
    out_low : (f : Fragment) → IsOf order f → is_behind order s.lo f ≡ false → lies_in s f ≡ false
    out_low f of b = lies f of ∙ ap (λ t. t && is_before order s.hi f) b

    never : (b : Bool) → (b && false) ≡ false
    never true = refl
    never false = refl

    out_high : (f : Fragment) → IsOf order f → is_before order s.hi f ≡ false → lies_in s f ≡ false
    out_high f of b = lies f of ∙ ap (λ t. is_behind order s.lo f && t) b ∙ never (is_behind order s.lo f)

    in_slice : (f : Fragment) → IsOf order f → is_behind order s.lo f ≡ true → is_before order s.hi f ≡ true → lies_in s f ≡ true
    in_slice f of a b = lies f of ∙ (λ i. a i && b i)

    abbrev reached : Cut → Bool
    reached k = not (stands_before s.lo k)

    abbrev short : Cut → Bool
    short k = stands_before k s.hi

    stop_low : (fs : List Fragment) → AllByRecursion (λ g. is_behind order s.lo g ≡ true) fs → AllByRecursion (Stopped reached) fs
    stop_low [] all = tt
    stop_low (fragment.Static cs ∷ fs) all = (tt, stop_low fs all.1)
    stop_low (fragment.Row r ∷ fs) all = (tt, stop_low fs all.1)
    stop_low (fragment.Marker k d ∷ fs) all = (ap not (stands s.lo k slice.lo ∙ all.0), stop_low fs all.1)

    stop_high : (fs : List Fragment) → AllByRecursion (IsOf order) fs → AllByRecursion (λ g. is_before order s.hi g ≡ false) fs → AllByRecursion (Stopped short) fs
    stop_high [] of all = tt
    stop_high (fragment.Static cs ∷ fs) of all = (tt, stop_high fs of.1 all.1)
    stop_high (fragment.Row r ∷ fs) of all = (tt, stop_high fs of.1 all.1)
    stop_high (fragment.Marker k d ∷ fs) of all = (stands k s.hi of.0 ∙ all.0, stop_high fs of.1 all.1)

    none_lie : (fs : List Fragment) → AllByRecursion (IsOf order) fs → AllByRecursion (λ g. is_before order s.hi g ≡ false) fs
        → AllByRecursion (λ g. lies_in s g ≡ false) fs
    none_lie [] of all = tt
    none_lie (f ∷ fs) of all = (out_high f of.0 all.0, none_lie fs of.1 all.1)

    -- what is given behind the low cut
    abbrev inner : Option Deletion → List Fragment → List Fragment
    inner now fs = filter (lies_in s) fs ++ closed_at s.hi (after short now (changes fs))

    -- a fragment in the slice is given, and what it opens is in force
    inner_goes : (now : Option Deletion) (f : Fragment) (fs : List Fragment) → IsOf order f → is_behind order s.lo f ≡ true → is_before order s.hi f ≡ true
        → inner now (f ∷ fs) ≡ f ∷ inner (opened now f) fs
    inner_goes now (fragment.Static cs) fs of a b = absurd (true≢false (sym a))
    inner_goes now (fragment.Row r) fs of a b =
        ap (λ t. cond t (fragment.Row r ∷ filter (lies_in s) fs) (filter (lies_in s) fs) ++ closed_at s.hi (after short now (changes fs)))
        (in_slice (fragment.Row r) of a b)
    inner_goes now (fragment.Marker k d) fs of a b =
        ap (λ t. cond t (fragment.Marker k d ∷ filter (lies_in s) fs) (filter (lies_in s) fs) ++ closed_at s.hi (after short (cond (stands_before k s.hi) d now) (changes fs)))
        (in_slice (fragment.Marker k d) of a b)
        ∙ ap (λ t. fragment.Marker k d ∷ (filter (lies_in s) fs ++ closed_at s.hi (after short (cond t d now) (changes fs)))) (stands k s.hi of ∙ b)

    inner_is : (now : Option Deletion) (fs : List Fragment) → AllByRecursion (IsOf order) fs → Ascend (place_cmp order) place_of fs
        → AllByRecursion (λ g. is_behind order s.lo g ≡ true) fs → inner now fs ≡ up_to_end order s now fs
    inner_is now [] of up all = refl
    inner_is now (f ∷ fs) of up all =
        elim (is_before order s.hi f) as (λ b. is_before order s.hi f ≡ b
        → inner now (f ∷ fs) ≡ cond b (f ∷ up_to_end order s (opened now f) fs) (closed_at s.hi now)) [
          | true ↦ λ b. inner_goes now f fs of.0 all.0 b ∙ ap (λ gs. f ∷ gs) (inner_is (opened now f) fs of.1 up.1 all.1)
          | false ↦ λ b.
              let out : AllByRecursion (λ g. is_before order s.hi g ≡ false) (f ∷ fs) = (b, none_before s.hi f fs b up.0) in
              ap (λ gs. gs ++ closed_at s.hi (after short now (changes (f ∷ fs)))) (filter_none (lies_in s) (f ∷ fs) (none_lie (f ∷ fs) of out))
              ∙ ap (closed_at s.hi) (stopped short now (f ∷ fs) (stop_high (f ∷ fs) of out))
        ] refl

    -- what is given at all
    abbrev amid : Option Deletion → List Fragment → List Fragment
    amid now fs = opened_at s.lo (after reached now (changes fs)) ++ inner now fs

    module _ (some : stands_before s.lo s.hi ≡ true) where
      -- a cut that isn't behind the low one stands before the high one
      pub low_is_short : (k : Cut) → k.order ≡ order → stands_before s.lo k ≡ false → stands_before k s.hi ≡ true
      low_is_short k of e = never_false (stands_before k s.hi) (λ high. true≢false (
          sym (ap is_lt (go (point_cmp order (cut_point k) (cut_point s.hi)) refl (sym (stands k s.hi of) ∙ high))) ∙ sym (stands s.lo k slice.lo) ∙ e))
        where
          below : point_cmp order (cut_point s.lo) (cut_point s.hi) ≡ Less
          below = is_less (point_cmp order (cut_point s.lo) (cut_point s.hi)) (sym (stands s.lo s.hi slice.lo) ∙ some)

          go : (r : Ordering) → point_cmp order (cut_point k) (cut_point s.hi) ≡ r → is_lt (point_cmp order (cut_point k) (cut_point s.hi)) ≡ false
              → point_cmp order (cut_point s.lo) (cut_point k) ≡ Less
          go Less is not_less = absurd (true≢false (sym (ap is_lt is) ∙ not_less))
          go Equal is not_less = ap (λ p. point_cmp order (cut_point s.lo) p) ((point_laws.orders order).ties (cut_point k) (cut_point s.hi) is) ∙ below
          go Greater is not_less = (point_laws.orders order).total.trans (cut_point s.lo) (cut_point s.hi) (cut_point k) below
              ((point_laws.orders order).total.antisymm (cut_point s.hi) (cut_point k) ∙ ap ordering_reverse is)

      -- a fragment that isn't behind the low cut counts by what it opens alone
      amid_skips : (now : Option Deletion) (f : Fragment) (fs : List Fragment) → IsOf order f → is_behind order s.lo f ≡ false
          → amid now (f ∷ fs) ≡ amid (opened now f) fs
      amid_skips now (fragment.Static cs) fs of b = refl
      amid_skips now (fragment.Row r) fs of b =
          ap (λ t. opened_at s.lo (after reached now (changes fs)) ++ (cond t (fragment.Row r ∷ filter (lies_in s) fs) (filter (lies_in s) fs)
          ++ closed_at s.hi (after short now (changes fs)))) (out_low (fragment.Row r) of b)
      amid_skips now (fragment.Marker k d) fs of b =
          let low : stands_before s.lo k ≡ false = stands s.lo k slice.lo ∙ b in
          ap (λ t. opened_at s.lo (after reached (cond (not t) d now) (changes fs)) ++ (filter (lies_in s) (fragment.Marker k d ∷ fs)
          ++ closed_at s.hi (after short (cond (stands_before k s.hi) d now) (changes fs)))) low
          ∙ ap (λ t. opened_at s.lo (after reached d (changes fs)) ++ (filter (lies_in s) (fragment.Marker k d ∷ fs)
          ++ closed_at s.hi (after short (cond t d now) (changes fs)))) (low_is_short k of low)
          ∙ ap (λ t. opened_at s.lo (after reached d (changes fs)) ++ (cond t (fragment.Marker k d ∷ filter (lies_in s) fs) (filter (lies_in s) fs)
          ++ closed_at s.hi (after short d (changes fs)))) (out_low (fragment.Marker k d) of b)

      pub amid_is : (now : Option Deletion) (fs : List Fragment) → AllByRecursion (IsOf order) fs → Ascend (place_cmp order) place_of fs
          → amid now fs ≡ cut_from order s now fs
      amid_is now [] of up = refl
      amid_is now (f ∷ fs) of up =
          elim (is_behind order s.lo f) as (λ b. is_behind order s.lo f ≡ b
          → amid now (f ∷ fs) ≡ cond b (opened_at s.lo now ++ up_to_end order s now (f ∷ fs)) (cut_from order s (opened now f) fs)) [
            | true ↦ λ b.
                let all : AllByRecursion (λ g. is_behind order s.lo g ≡ true) (f ∷ fs) = (b, all_behind s.lo f fs b up.0) in
                ap (λ d. opened_at s.lo d ++ inner now (f ∷ fs)) (stopped reached now (f ∷ fs) (stop_low (f ∷ fs) all))
                ∙ ap (λ gs. opened_at s.lo now ++ gs) (inner_is now (f ∷ fs) of up all)
            | false ↦ λ b. amid_skips now f fs of.0 b ∙ amid_is (opened now f) fs of.1 up.1
          ] refl

pub cuts_are_one : CutsAreOne
cuts_are_one order s fs slice some ordered =
    ap (λ b. filter is_static fs ++ cond b (between_cuts s fs) []) some
    ∙ ap (λ gs. filter is_static fs ++ gs) (amid_is order s slice some None fs ordered.of (ascend_by_keys (place_cmp order) place_of fs ordered.places))
