-- A stream cut to a slice is ordered and well formed, and says the same in the slice.
use Rattle.std.proofs.Common.{◌≡◌, ℕ, Bool, true, false, not, ◌&&◌, cond, Option, None, Some, List, [], ◌∷◌, ◌++◌, filter, refl, sym, ap, ◌∙◌, subst}
use Rattle.std.proofs.lemmas.Bool.{true≢false}
use Rattle.std.proofs.lemmas.List.{append-nil}
use Rattle.std.specs.List.{AllByRecursion, flat_map}
use Rattle.std.proofs.lemmas.Cmp.{tied_itself}
use Rattle.std.specs.Ordering.{is_lt, is_gt, is_eq, ordering_reverse}
use Rattle.std.specs.Cmp.Lexicographic.{lists_total}
use Rattle.std.specs.declared.cmp.Ordering.{Ordering}
use Rattle.std.specs.declared.cmp.Ordering.TheVariants.{Less, Equal, Greater}
use Rattle.cas_types.proofs.OrderLaws.{bytes_orders}
use Rattle.cas_cell.specs.declared.deletion.Deletion.{Deletion}
use Rattle.cas_bounds.specs.ClusteringOrder.{clustering_order}
use Rattle.cas_bounds.specs.Cuts.{is_past, is_inside, cut_cmp}
use Rattle.cas_bounds.specs.Points.{point_cmp, row_point, cut_point, side}
use Rattle.cas_bounds.specs.declared.map_key.End.{End}
use Rattle.cas_bounds.specs.declared.map_key.End.TheVariants as end
use Rattle.cas_bounds.specs.declared.order.Ordered.{Ordered}
use Rattle.cas_bounds.specs.declared.cuts.Cut.{Cut}
use Rattle.cas_bounds.specs.declared.cuts.Slice.{Slice}
use Rattle.cas_bounds.proofs.CutLaws.{point_laws, cuts_divide_rows}
use Rattle.cas_atoms.specs.Coordinates.{RowKey, clustered, static_row, row_of, same_row}
use Rattle.cas_atoms.specs.Winners.{cover, live_winner, cell_winner}
use Rattle.cas_atoms.specs.declared.atom.Atom.TheVariants.{PartitionDeletion}
use Rattle.cas_laws.specs.Inside.{SameWhere, is_in}
use Rattle.cas_laws.proofs.GreatestProofs.{no_none}
use Rattle.cas_laws.proofs.ShownProofs.{both_hold, equal_values}
use Rattle.cas_streams.specs.Places.{Place, place_cmp, place_of, row_in}
use Rattle.cas_streams.specs.Flat.{Change, changes, after, at_end, reaching, in_force, atom_of, own, flat}
use Rattle.cas_streams.specs.Streams.{IsOf, IsOrdered, IsFragment, Differ}
use Rattle.cas_streams.specs.Slices.{stands_before, IsSliceOf, is_static, lies_in, force_behind, force_before, opened_at, closed_at, between_cuts, cut_to}
use Rattle.cas_streams.specs.Laws.{is_row, row_says, CutKeepsTheSlice, CutIsWellFormed}
use Rattle.cas_streams.specs.declared.fragment.Fragment.{Fragment}
use Rattle.cas_streams.specs.declared.fragment.Fragment.TheVariants as fragment
use Rattle.cas_streams.proofs.InOrder.{Rise, changes_rise}
use Rattle.cas_streams.proofs.Weaves.{Ascend, keys_ascend, ascend_by_keys, all_so}
use Rattle.cas_streams.proofs.Rows.{rows_say_all}

-- ---- lists of which some elements are left out

module _ {X : Type 0} (P : X → Type 0) where
  all_append : (xs ys : List X) → AllByRecursion P xs → AllByRecursion P ys → AllByRecursion P (xs ++ ys)
  all_append [] ys a b = b
  all_append (x ∷ xs) ys a b = (a.0, all_append xs ys a.1 b)

  if_passes : (b : Bool) (x : X) (xs : List X) → P x → AllByRecursion P xs → AllByRecursion P (cond b (x ∷ xs) xs)
  if_passes true x xs p a = (p, a)
  if_passes false x xs p a = a

  all_filter : (t : X → Bool) (xs : List X) → AllByRecursion P xs → AllByRecursion P (filter t xs)
  all_filter t [] a = tt
  all_filter t (x ∷ xs) a = if_passes (t x) x (filter t xs) a.0 (all_filter t xs a.1)

-- what is left passes the test
module _ {X : Type 0} (P Q : X → Type 0) (t : X → Bool) (passing : (x : X) → t x ≡ true → P x → Q x) where
  all_passing : (xs : List X) → AllByRecursion P xs → AllByRecursion Q (filter t xs)
  all_passing [] a = tt
  all_passing (x ∷ xs) a =
      elim (t x) as (λ b. t x ≡ b → AllByRecursion Q (cond b (x ∷ filter t xs) (filter t xs))) [
        | true ↦ λ e. (passing x e a.0, all_passing xs a.1)
        | false ↦ λ e. all_passing xs a.1
      ] refl

module _ {X K : Type 0} (R : K → K → Ordering) (key : X → K) where
  if_ascends : (b : Bool) (x : X) (xs : List X) → AllByRecursion (λ y. R (key x) (key y) ≡ Less) xs → Ascend R key xs → Ascend R key (cond b (x ∷ xs) xs)
  if_ascends true x xs below a = (below, a)
  if_ascends false x xs below a = a

  ascend_filter : (t : X → Bool) (xs : List X) → Ascend R key xs → Ascend R key (filter t xs)
  ascend_filter t [] a = tt
  ascend_filter t (x ∷ xs) a = if_ascends (t x) x (filter t xs) (all_filter (λ y. R (key x) (key y) ≡ Less) t xs a.0) (ascend_filter t xs a.1)

  -- all of one list stand before all of another
  abbrev AllBefore : List X → List X → Type 0
  AllBefore xs ys = AllByRecursion (λ x. AllByRecursion (λ y. R (key x) (key y) ≡ Less) ys) xs

  ascend_append : (xs ys : List X) → Ascend R key xs → Ascend R key ys → AllBefore xs ys → Ascend R key (xs ++ ys)
  ascend_append [] ys a b before = b
  ascend_append (x ∷ xs) ys a b before = (all_append (λ y. R (key x) (key y) ≡ Less) xs ys a.0 before.0, ascend_append xs ys a.1 b before.1)

-- filtered twice
filter_twice : {X : Type 0} (t u : X → Bool) → ((x : X) → t x ≡ true → u x ≡ true) → (xs : List X) → filter t (filter u xs) ≡ filter t xs
filter_twice t u h [] = refl
filter_twice t u h (x ∷ xs) =
    elim (u x) as (λ b. u x ≡ b → filter t (cond b (x ∷ filter u xs) (filter u xs)) ≡ cond (t x) (x ∷ filter t xs) (filter t xs)) [
      | true ↦ λ e. ap (λ rest. cond (t x) (x ∷ rest) rest) (filter_twice t u h xs)
      | false ↦ λ e. filter_twice t u h xs ∙ sym (ap (λ b. cond b (x ∷ filter t xs) (filter t xs)) (is_not (t x) (λ p. true≢false (sym (h x p) ∙ e))))
    ] refl
  where
    is_not : (b : Bool) → (b ≡ true → ⊥) → b ≡ false
    is_not true f = absurd (f refl)
    is_not false f = refl

pub filter_append : {X : Type 0} (t : X → Bool) (xs ys : List X) → filter t (xs ++ ys) ≡ filter t xs ++ filter t ys
filter_append t [] ys = refl
filter_append t (x ∷ xs) ys = ap (λ rest. cond (t x) (x ∷ rest) rest) (filter_append t xs ys) ∙ kept (t x)
  where
    kept : (b : Bool) → cond b (x ∷ (filter t xs ++ filter t ys)) (filter t xs ++ filter t ys) ≡ cond b (x ∷ filter t xs) (filter t xs) ++ filter t ys
    kept true = refl
    kept false = refl

pub filter_none : {X : Type 0} (t : X → Bool) (xs : List X) → AllByRecursion (λ x. t x ≡ false) xs → filter t xs ≡ []
filter_none t [] a = refl
filter_none t (x ∷ xs) a = ap (λ b. cond b (x ∷ filter t xs) (filter t xs)) a.0 ∙ filter_none t xs a.1

-- ---- changes between two tests

-- behind a change of which a test isn't true it is true of none
abbrev Ends : (Cut → Bool) → List Change → Type 0
Ends t [] = Unit {0}
Ends t (m ∷ ms) = (t m.at ≡ false → AllByRecursion (λ n. t n.at ≡ false) ms) × Ends t ms

after_none : (t : Cut → Bool) (now : Option Deletion) (ms : List Change) → AllByRecursion (λ n. t n.at ≡ false) ms → after t now ms ≡ now
after_none t now [] a = refl
after_none t now (m ∷ ms) a = ap (λ b. after t (cond b m.to now) ms) a.0 ∙ after_none t now ms a.1

pub after_append : (t : Cut → Bool) (now : Option Deletion) (ms ns : List Change) → after t now (ms ++ ns) ≡ after t (after t now ms) ns
after_append t now [] ns = refl
after_append t now (m ∷ ms) ns = after_append t (cond (t m.at) m.to now) ms ns

-- the same tests say the same
pub after_alike : (t u : Cut → Bool) (now : Option Deletion) (ms : List Change) → AllByRecursion (λ n. t n.at ≡ u n.at) ms → after t now ms ≡ after u now ms
after_alike t u now [] a = refl
after_alike t u now (m ∷ ms) a = ap (λ b. after t (cond b m.to now) ms) a.0 ∙ after_alike t u (cond (u m.at) m.to now) ms a.1

-- `before` is true of what comes first, `short` until something ends; a change is between where it isn't before, and short
module _ (before short : Cut → Bool) where
  abbrev amid : Change → Bool
  amid m = not (before m.at) && short m.at

  -- what a test finds that is true of what is before, and of nothing that isn't short, it finds among what is between
  abbrev Fits : (Cut → Bool) → Change → Type 0
  Fits t m = (before m.at ≡ true → t m.at ≡ true) × (short m.at ≡ false → t m.at ≡ false)

  split : (t : Cut → Bool) (now : Option Deletion) (ms : List Change) → AllByRecursion (Fits t) ms → Ends before ms → after t now ms ≡ after t (after before now ms) (filter amid ms)
  split t now [] fits e = refl
  split t now (m ∷ ms) fits e =
      elim (before m.at) as (λ b. before m.at ≡ b → after t (cond (t m.at) m.to now) ms
      ≡ after t (after before (cond b m.to now) ms) (cond (not b && short m.at) (m ∷ filter amid ms) (filter amid ms))) [
        | true ↦ λ p. ap (λ b. after t (cond b m.to now) ms) (fits.0.0 p) ∙ split t m.to ms fits.1 e.1
        | false ↦ λ p.
            let stays : (d : Option Deletion) → after before d ms ≡ d = λ d. after_none before d ms (e.0 p) in
            elim (short m.at) as (λ b. short m.at ≡ b → after t (cond (t m.at) m.to now) ms ≡ after t (after before now ms) (cond b (m ∷ filter amid ms) (filter amid ms))) [
              | true ↦ λ q.
                  split t (cond (t m.at) m.to now) ms fits.1 e.1 ∙ ap (λ d. after t d (filter amid ms)) (stays (cond (t m.at) m.to now))
                  ∙ sym (ap (λ d. after t (cond (t m.at) m.to d) (filter amid ms)) (stays now))
              | false ↦ λ q. ap (λ b. after t (cond b m.to now) ms) (fits.0.1 q) ∙ split t now ms fits.1 e.1
            ] refl
      ] refl

  -- changes that differ do so between, from what is in force there
  differ_amid : (now : Option Deletion) (ms : List Change) → Ends before ms → Ends short ms → Differ now ms → Differ (after before now ms) (filter amid ms)
  differ_amid now [] e f d = tt
  differ_amid now (m ∷ ms) e f d =
      elim (before m.at) as (λ b. before m.at ≡ b → Differ (after before (cond b m.to now) ms) (cond (not b && short m.at) (m ∷ filter amid ms) (filter amid ms))) [
        | true ↦ λ p. differ_amid m.to ms e.1 f.1 d.1
        | false ↦ λ p.
            let stays : (d : Option Deletion) → after before d ms ≡ d = λ d. after_none before d ms (e.0 p) in
            elim (short m.at) as (λ b. short m.at ≡ b → Differ (after before now ms) (cond b (m ∷ filter amid ms) (filter amid ms))) [
              | true ↦ λ q.
                  subst (λ w. Differ w (m ∷ filter amid ms)) (sym (stays now))
                  (d.0, subst (λ w. Differ w (filter amid ms)) (stays m.to) (differ_amid m.to ms e.1 f.1 d.1))
              | false ↦ λ q. subst (λ ns. Differ (after before now ms) ns) (sym (none_amid ms (f.0 q))) tt
            ] refl
      ] refl
    where
      never : (b : Bool) → (b && false) ≡ false
      never true = refl
      never false = refl

      none_amid : (ns : List Change) → AllByRecursion (λ n. short n.at ≡ false) ns → filter amid ns ≡ []
      none_amid ns a = filter_none amid ns (all_so (λ n. short n.at ≡ false) (λ n. amid n ≡ false) (λ n h. ap (λ b. not (before n.at) && b) h ∙ never (not (before n.at))) ns a)

differ_append : (now : Option Deletion) (ms ns : List Change) → Differ now ms → Differ (at_end now ms) ns → Differ now (ms ++ ns)
differ_append now [] ns a b = b
differ_append now (m ∷ ms) ns a b = (a.0, differ_append m.to ms ns a.1 b)

-- ---- changes of fragments

pub changes_append : (fs gs : List Fragment) → changes (fs ++ gs) ≡ changes fs ++ changes gs
changes_append [] gs = refl
changes_append (fragment.Static cs ∷ fs) gs = changes_append fs gs
changes_append (fragment.Row r ∷ fs) gs = changes_append fs gs
changes_append (fragment.Marker cut d ∷ fs) gs = ap (λ ms. record { at = cut; to = d } ∷ ms) (changes_append fs gs)

no_changes : (fs : List Fragment) → changes (filter is_static fs) ≡ []
no_changes [] = refl
no_changes (fragment.Static cs ∷ fs) = no_changes fs
no_changes (fragment.Row r ∷ fs) = no_changes fs
no_changes (fragment.Marker cut d ∷ fs) = no_changes fs

changes_inside : (s : Slice) (fs : List Fragment) → changes (filter (lies_in s) fs) ≡ filter (λ m. stands_before s.lo m.at && stands_before m.at s.hi) (changes fs)
changes_inside s [] = refl
changes_inside s (fragment.Static cs ∷ fs) = changes_inside s fs
changes_inside s (fragment.Row r ∷ fs) = either (is_inside s.lo s.hi r.clustering.values) ∙ changes_inside s fs
  where
    either : (b : Bool) → changes (cond b (fragment.Row r ∷ filter (lies_in s) fs) (filter (lies_in s) fs)) ≡ changes (filter (lies_in s) fs)
    either true = refl
    either false = refl
changes_inside s (fragment.Marker cut d ∷ fs) =
    either (stands_before s.lo cut && stands_before cut s.hi)
    ∙ ap (λ ms. cond (stands_before s.lo cut && stands_before cut s.hi) (record { at = cut; to = d } ∷ ms) ms) (changes_inside s fs)
  where
    either : (b : Bool) → changes (cond b (fragment.Marker cut d ∷ filter (lies_in s) fs) (filter (lies_in s) fs))
        ≡ cond b (record { at = cut; to = d } ∷ changes (filter (lies_in s) fs)) (changes (filter (lies_in s) fs))
    either true = refl
    either false = refl

-- ---- the ends of a slice

filter_alike : {X : Type 0} (t u : X → Bool) → ((x : X) → t x ≡ u x) → (xs : List X) → filter t xs ≡ filter u xs
filter_alike t u h [] = refl
filter_alike t u h (x ∷ xs) = λ i. cond (h x i) (x ∷ filter_alike t u h xs i) (filter_alike t u h xs i)

not_not : (b : Bool) → not (not b) ≡ b
not_not true = refl
not_not false = refl

is_less : (r : Ordering) → is_lt r ≡ true → r ≡ Less
is_less Less e = refl
is_less Equal e = absurd (true≢false (sym e))
is_less Greater e = absurd (true≢false (sym e))

no_gt : (r : Ordering) → is_lt r ≡ false → is_gt (ordering_reverse r) ≡ false
no_gt Less e = absurd (true≢false e)
no_gt Equal e = refl
no_gt Greater e = refl

is_not : (b : Bool) → (b ≡ true → ⊥) → b ≡ false
is_not true f = absurd (f refl)
is_not false f = refl

was_true : (b : Bool) → not b ≡ false → b ≡ true
was_true true e = refl
was_true false e = absurd (true≢false e)

was_false : (b : Bool) → not b ≡ true → b ≡ false
was_false true e = absurd (true≢false (sym e))
was_false false e = refl

is_row_end : End → Bool
is_row_end end.Before = false
is_row_end end.Row = true
is_row_end end.After = false

side_no_row : (b : Bool) → is_row_end (side b) ≡ false
unfolding is_row_end
side_no_row true = refl
side_no_row false = refl

row_no_cut : (k : Cut) (c : List (List ℕ)) → cut_point k ≡ row_point c → ⊥
unfolding is_row_end
row_no_cut k c e = true≢false (sym (ap (λ p. is_row_end p.end) e) ∙ side_no_row k.after)

module _ (order : List Ordered) where
  stands : (a b : Cut) → a.order ≡ order → stands_before a b ≡ is_lt (point_cmp order (cut_point a) (cut_point b))
  stands a b e = ap is_lt (point_laws.cuts a b ∙ ap (λ o. point_cmp o (cut_point a) (cut_point b)) e)

  is_below : (a b : Cut) → a.order ≡ order → stands_before a b ≡ true → point_cmp order (cut_point a) (cut_point b) ≡ Less
  is_below a b e h = is_less (point_cmp order (cut_point a) (cut_point b)) (sym (stands a b e) ∙ h)

  -- of two cuts the first stands before the second, or the second isn't above the first
  no_later : (a b : Cut) → a.order ≡ order → b.order ≡ order → stands_before a b ≡ false → is_gt (cut_cmp b a) ≡ false
  no_later a b e f h =
      ap is_gt (point_laws.cuts b a ∙ ap (λ o. point_cmp o (cut_point b) (cut_point a)) f ∙ (point_laws.orders order).total.antisymm (cut_point b) (cut_point a))
      ∙ no_gt (point_cmp order (cut_point a) (cut_point b)) (sym (stands a b e) ∙ h)

  -- what a cut isn't before, it isn't before later on; what it is before, it is before later on
  module _ (k : Cut) (of : k.order ≡ order) where
    ends_behind : (ms : List Change) → Rise order ms → Ends (λ l. not (stands_before k l)) ms
    ends_behind [] rise = tt
    ends_behind (m ∷ ms) rise = (λ p. go (is_below k m.at of (was_true (stands_before k m.at) p)) ms rise.1, ends_behind ms rise.2)
      where
        go : point_cmp order (cut_point k) (cut_point m.at) ≡ Less → (ns : List Change) → AllByRecursion (λ n. point_cmp order (cut_point m.at) (cut_point n.at) ≡ Less) ns
            → AllByRecursion (λ n. not (stands_before k n.at) ≡ false) ns
        go less [] above = tt
        go less (n ∷ ns) above = (
          ap not (stands k n.at of ∙ ap is_lt ((point_laws.orders order).total.trans (cut_point k) (cut_point m.at) (cut_point n.at) less above.0)),
          go less ns above.1,
        )

    ends_before : (ms : List Change) → Rise order ms → Ends (λ l. stands_before l k) ms
    ends_before [] rise = tt
    ends_before (m ∷ ms) rise = (λ p. go p ms rise.1 rise.2, ends_before ms rise.2)
      where
        go : stands_before m.at k ≡ false → (ns : List Change) → AllByRecursion (λ n. point_cmp order (cut_point m.at) (cut_point n.at) ≡ Less) ns → Rise order ns
            → AllByRecursion (λ n. stands_before n.at k ≡ false) ns
        go p [] above r = tt
        go p (n ∷ ns) above r = (
          is_not (stands_before n.at k) (λ q. true≢false (
              sym (stands m.at k rise.0 ∙ ap is_lt ((point_laws.orders order).total.trans (cut_point m.at) (cut_point n.at) (cut_point k) above.0 (is_below n.at k r.0 q))) ∙ p
              )),
          go p ns above.1 r.2,
        )

each_of : (order : List Ordered) (ms : List Change) → Rise order ms → AllByRecursion (λ m. m.at.order ≡ order) ms
each_of order [] rise = tt
each_of order (m ∷ ms) rise = (rise.0, each_of order ms rise.2)

-- ---- a stream cut to a slice

module _ (order : List Ordered) (s : Slice) (fs : List Fragment) (slice : IsSliceOf order s) (ordered : IsOrdered order fs) where
  abbrev ms : List Change
  ms = changes fs

  abbrev start : Option Deletion
  start = force_behind s.lo fs

  abbrev stop : Option Deletion
  stop = force_before s.hi fs

  abbrev reached : Cut → Bool
  reached k = not (stands_before s.lo k)

  abbrev short : Cut → Bool
  short k = stands_before k s.hi

  rise : Rise order ms
  rise = changes_rise order fs ordered.places ordered.of

  inner_changes : changes (between_cuts s fs) ≡ changes (opened_at s.lo start) ++ (filter (amid reached short) ms ++ changes (closed_at s.hi stop))
  inner_changes =
      changes_append (opened_at s.lo start) (filter (lies_in s) fs ++ closed_at s.hi stop)
      ∙ ap (λ ns. changes (opened_at s.lo start) ++ ns) (
      changes_append (filter (lies_in s) fs) (closed_at s.hi stop)
      ∙ ap (λ ns. ns ++ changes (closed_at s.hi stop)) (changes_inside s fs ∙ filter_alike (λ m. stands_before s.lo m.at && stands_before m.at s.hi) (amid reached short) (λ m. ap (λ b. b && short m.at) (sym (not_not (stands_before s.lo m.at)))) ms)
      )

  opened_says : (t : Cut → Bool) → t s.lo ≡ true → (d : Option Deletion) → after t None (changes (opened_at s.lo d)) ≡ d
  opened_says t e None = refl
  opened_says t e (Some d) = ap (λ b. cond b (Some d) None) e

  closed_says : (t : Cut → Bool) → t s.hi ≡ false → (now d : Option Deletion) → after t now (changes (closed_at s.hi d)) ≡ now
  closed_says t e now None = refl
  closed_says t e now (Some d) = ap (λ b. cond b None now) e

  closed_closes : (now d : Option Deletion) → now ≡ d → at_end now (changes (closed_at s.hi d)) ≡ None
  closed_closes now None e = e
  closed_closes now (Some d) e = refl

  -- what is in force between the cuts is found by the changes between
  amid_says : (t : Cut → Bool) → t s.lo ≡ true → (now : Option Deletion) → AllByRecursion (Fits reached short t) ms
      → after t None (changes (opened_at s.lo start) ++ (filter (amid reached short) ms ++ changes (closed_at s.hi stop))) ≡ after t (after t None ms) (changes (closed_at s.hi stop))
  amid_says t e now fits =
      after_append t None (changes (opened_at s.lo start)) (filter (amid reached short) ms ++ changes (closed_at s.hi stop))
      ∙ ap (λ d. after t d (filter (amid reached short) ms ++ changes (closed_at s.hi stop))) (opened_says t e start)
      ∙ after_append t start (filter (amid reached short) ms) (changes (closed_at s.hi stop))
      ∙ ap (λ d. after t d (changes (closed_at s.hi stop))) (sym (split reached short t None ms fits (ends_behind order s.lo slice.lo ms rise)))

  module _ (c : List (List ℕ)) (inside : is_inside s.lo s.hi c ≡ true) where
    past_lo : is_past s.lo c ≡ true
    past_lo = (both_hold (is_past s.lo c) (not (is_past s.hi c)) inside).0

    not_past_hi : is_past s.hi c ≡ false
    not_past_hi = was_false (is_past s.hi c) (both_hold (is_past s.lo c) (not (is_past s.hi c)) inside).1

    row_fits : (ns : List Change) → AllByRecursion (λ m. m.at.order ≡ order) ns → AllByRecursion (Fits reached short (λ k. is_past k c)) ns
    row_fits [] of = tt
    row_fits (m ∷ ns) of = (
      (
        λ e. cuts_divide_rows m.at s.lo c (of.0 ∙ sym slice.lo) (no_later order s.lo m.at slice.lo of.0 (was_false (stands_before s.lo m.at) e)) past_lo,
        λ e. is_not (is_past m.at c) (λ p. true≢false (sym (cuts_divide_rows s.hi m.at c (slice.hi ∙ sym of.0) (no_later order m.at s.hi of.0 slice.hi e) p) ∙ not_past_hi)),
      ),
      row_fits ns of.1,
    )

    -- a slice with a row in it has cuts that stand one after the other
    some_row : stands_before s.lo s.hi ≡ true
    some_row =
        elim (stands_before s.lo s.hi) as (λ b. stands_before s.lo s.hi ≡ b → b ≡ true) [
          | true ↦ λ e. refl
          | false ↦ λ e. absurd (true≢false (sym (cuts_divide_rows s.hi s.lo c (slice.hi ∙ sym slice.lo) (no_later order s.lo s.hi slice.lo slice.hi e) past_lo) ∙ not_past_hi))
        ] refl

    force_in_row : reaching None (changes (cut_to s fs)) c ≡ reaching None ms c
    force_in_row =
        let t : Cut → Bool = λ k. is_past k c in
        ap (λ ns. after t None ns) (
        changes_append (filter is_static fs) (cond (stands_before s.lo s.hi) (between_cuts s fs) [])
        ∙ ap (λ ns. ns ++ changes (cond (stands_before s.lo s.hi) (between_cuts s fs) [])) (no_changes fs)
        ∙ ap (λ b. changes (cond b (between_cuts s fs) [])) some_row ∙ inner_changes
        )
        ∙ amid_says t past_lo None (row_fits ms (each_of order ms rise))
        ∙ closed_says t not_past_hi (after t None ms) stop

  force_kept : (r : RowKey) → is_in s r ≡ true → in_force (cut_to s fs) r ≡ in_force fs r
  force_kept static_row e = refl
  force_kept (clustered c) e = force_in_row c e

  -- ---- places

  abbrev Above : Place → Fragment → Type 0
  Above p f = place_cmp order p (place_of f) ≡ Less

  row_above : (c : List (List ℕ)) → is_inside s.lo s.hi c ≡ true → point_cmp order (cut_point s.lo) (row_point c) ≡ Less
  row_above c e = is_less (point_cmp order (cut_point s.lo) (row_point c)) (ap (λ o. is_lt (point_cmp o (cut_point s.lo) (row_point c))) (sym slice.lo) ∙ sym (point_laws.past s.lo c) ∙ past_lo c e)

  row_below : (c : List (List ℕ)) → is_inside s.lo s.hi c ≡ true → point_cmp order (row_point c) (cut_point s.hi) ≡ Less
  row_below c e = (point_laws.orders order).total.antisymm (row_point c) (cut_point s.hi) ∙ ap ordering_reverse (greater (point_cmp order (cut_point s.hi) (row_point c)) refl)
    where
      not_less : is_lt (point_cmp order (cut_point s.hi) (row_point c)) ≡ false
      not_less = ap (λ o. is_lt (point_cmp o (cut_point s.hi) (row_point c))) (sym slice.hi) ∙ sym (point_laws.past s.hi c) ∙ not_past_hi c e

      greater : (r : Ordering) → point_cmp order (cut_point s.hi) (row_point c) ≡ r → r ≡ Greater
      greater Less h = absurd (true≢false (sym (ap is_lt h) ∙ not_less))
      greater Equal h = absurd (row_no_cut s.hi c ((point_laws.orders order).ties (cut_point s.hi) (row_point c) h))
      greater Greater h = refl

  above_lo : (f : Fragment) → lies_in s f ≡ true → IsOf order f → Above (Some (cut_point s.lo)) f
  above_lo (fragment.Static cs) e of = absurd (true≢false (sym e))
  above_lo (fragment.Row r) e of = row_above r.clustering.values e
  above_lo (fragment.Marker k d) e of = is_below order s.lo k slice.lo (both_hold (stands_before s.lo k) (stands_before k s.hi) e).0

  below_hi : (f : Fragment) → lies_in s f ≡ true → IsOf order f → place_cmp order (place_of f) (Some (cut_point s.hi)) ≡ Less
  below_hi (fragment.Static cs) e of = absurd (true≢false (sym e))
  below_hi (fragment.Row r) e of = row_below r.clustering.values e
  below_hi (fragment.Marker k d) e of = is_below order k s.hi of (both_hold (stands_before s.lo k) (stands_before k s.hi) e).1

  no_static : (f : Fragment) → lies_in s f ≡ true → is_static f ≡ false
  no_static (fragment.Static cs) e = absurd (true≢false (sym e))
  no_static (fragment.Row r) e = refl
  no_static (fragment.Marker k d) e = refl

  behind_static : (f g : Fragment) → is_static f ≡ true → is_static g ≡ false → place_cmp order (place_of f) (place_of g) ≡ Less
  behind_static (fragment.Row r) g e h = absurd (true≢false (sym e))
  behind_static (fragment.Marker k d) g e h = absurd (true≢false (sym e))
  behind_static (fragment.Static cs) (fragment.Static ds) e h = absurd (true≢false h)
  behind_static (fragment.Static cs) (fragment.Row r) e h = refl
  behind_static (fragment.Static cs) (fragment.Marker k d) e h = refl

  all_opened : (P : Fragment → Type 0) → ((d : Deletion) → P (fragment.Marker s.lo (Some d))) → (d : Option Deletion) → AllByRecursion P (opened_at s.lo d)
  all_opened P h None = tt
  all_opened P h (Some d) = (h d, tt)

  all_closed : (P : Fragment → Type 0) → P (fragment.Marker s.hi None) → (d : Option Deletion) → AllByRecursion P (closed_at s.hi d)
  all_closed P h None = tt
  all_closed P h (Some d) = (h, tt)

  -- a fact of each fragment
  all_cut : (P : Fragment → Type 0) → ((d : Deletion) → P (fragment.Marker s.lo (Some d))) → P (fragment.Marker s.hi None) → AllByRecursion P fs → AllByRecursion P (cut_to s fs)
  all_cut P lo hi a = all_append P (filter is_static fs) (cond (stands_before s.lo s.hi) (between_cuts s fs) []) (all_filter P is_static fs a) (either (stands_before s.lo s.hi))
    where
      either : (b : Bool) → AllByRecursion P (cond b (between_cuts s fs) [])
      either true = all_append P (opened_at s.lo start) (filter (lies_in s) fs ++ closed_at s.hi stop) (all_opened P lo start)
          (all_append P (filter (lies_in s) fs) (closed_at s.hi stop) (all_filter P (lies_in s) fs a) (all_closed P hi stop))
      either false = tt

  nothing : {X : Type 0} (xs : List X) → AllByRecursion (λ x. Unit {0}) xs
  nothing [] = tt
  nothing (x ∷ xs) = (tt, nothing xs)

  inner_ascend : stands_before s.lo s.hi ≡ true → Ascend (place_cmp order) place_of (between_cuts s fs)
  inner_ascend e =
      let rows : List Fragment = filter (lies_in s) fs in
      let sorted : Ascend (place_cmp order) place_of fs = ascend_by_keys (place_cmp order) place_of fs ordered.places in
      ascend_append (place_cmp order) place_of (opened_at s.lo start) (rows ++ closed_at s.hi stop) (one_opened start)
      (ascend_append (place_cmp order) place_of rows (closed_at s.hi stop) (ascend_filter (place_cmp order) place_of (lies_in s) fs sorted) (one_closed stop)
      (all_passing (IsOf order) (λ f. AllByRecursion (λ g. place_cmp order (place_of f) (place_of g) ≡ Less) (closed_at s.hi stop)) (lies_in s)
      (λ f h of. all_closed (λ g. place_cmp order (place_of f) (place_of g) ≡ Less) (below_hi f h of) stop) fs ordered.of))
      (all_opened (λ f. AllByRecursion (λ g. place_cmp order (place_of f) (place_of g) ≡ Less) (rows ++ closed_at s.hi stop))
      (λ d. all_append (Above (Some (cut_point s.lo))) rows (closed_at s.hi stop) (all_passing (IsOf order) (Above (Some (cut_point s.lo))) (lies_in s) above_lo fs ordered.of)
      (all_closed (Above (Some (cut_point s.lo))) (is_below order s.lo s.hi slice.lo e) stop)) start)
    where
      one_opened : (d : Option Deletion) → Ascend (place_cmp order) place_of (opened_at s.lo d)
      one_opened None = tt
      one_opened (Some d) = (tt, tt)

      one_closed : (d : Option Deletion) → Ascend (place_cmp order) place_of (closed_at s.hi d)
      one_closed None = tt
      one_closed (Some d) = (tt, tt)

  abbrev inner : List Fragment
  inner = cond (stands_before s.lo s.hi) (between_cuts s fs) []

  inner_not_static : AllByRecursion (λ g. is_static g ≡ false) inner
  inner_not_static = either (stands_before s.lo s.hi)
    where
      either : (b : Bool) → AllByRecursion (λ g. is_static g ≡ false) (cond b (between_cuts s fs) [])
      either false = tt
      either true = all_append (λ g. is_static g ≡ false) (opened_at s.lo start) (filter (lies_in s) fs ++ closed_at s.hi stop) (all_opened (λ g. is_static g ≡ false) (λ d. refl) start)
          (all_append (λ g. is_static g ≡ false) (filter (lies_in s) fs) (closed_at s.hi stop)
          (all_passing (λ g. Unit {0}) (λ g. is_static g ≡ false) (lies_in s) (λ g h u. no_static g h) fs (nothing fs)) (all_closed (λ g. is_static g ≡ false) refl stop))

  cut_ascends : Ascend (place_cmp order) place_of (cut_to s fs)
  cut_ascends =
      ascend_append (place_cmp order) place_of (filter is_static fs) inner
      (ascend_filter (place_cmp order) place_of is_static fs (ascend_by_keys (place_cmp order) place_of fs ordered.places))
      (elim (stands_before s.lo s.hi) as (λ b. stands_before s.lo s.hi ≡ b → Ascend (place_cmp order) place_of (cond b (between_cuts s fs) [])) [
        | true ↦ λ e. inner_ascend e
        | false ↦ λ e. tt
      ] refl)
      (all_passing (λ f. Unit {0}) (λ f. AllByRecursion (λ g. place_cmp order (place_of f) (place_of g) ≡ Less) inner) is_static
      (λ f h u. all_so (λ g. is_static g ≡ false) (λ g. place_cmp order (place_of f) (place_of g) ≡ Less) (λ g k. behind_static f g h k) inner inner_not_static) fs (nothing fs))

  -- ---- the end

  all_fit : stands_before s.lo s.hi ≡ true → (ns : List Change) → AllByRecursion (λ m. m.at.order ≡ order) ns → AllByRecursion (Fits reached short short) ns
  all_fit e [] of = tt
  all_fit e (m ∷ ns) of = (
    (
      λ h. elim (short m.at) as (λ b. short m.at ≡ b → b ≡ true) [
        | true ↦ λ k. refl
        | false ↦ λ k. absurd (true≢false (sym (lower m.at of.0 (was_false (stands_before s.lo m.at) h)) ∙ k))
      ] refl,
      λ h. h,
    ),
    all_fit e ns of.1,
  )
    where
      -- what isn't behind the start is before the end
      lower : (k : Cut) → k.order ≡ order → stands_before s.lo k ≡ false → stands_before k s.hi ≡ true
      lower k f h = stands order k s.hi f ∙ ap is_lt (either (point_cmp order (cut_point s.lo) (cut_point k)) refl)
        where
          up : point_cmp order (cut_point s.lo) (cut_point s.hi) ≡ Less
          up = is_below order s.lo s.hi slice.lo e

          either : (r : Ordering) → point_cmp order (cut_point s.lo) (cut_point k) ≡ r → point_cmp order (cut_point k) (cut_point s.hi) ≡ Less
          either Less q = absurd (true≢false (sym (stands order s.lo k slice.lo ∙ ap is_lt q) ∙ h))
          either Equal q = ap (λ p. point_cmp order p (cut_point s.hi)) (sym ((point_laws.orders order).ties (cut_point s.lo) (cut_point k) q)) ∙ up
          either Greater q = (point_laws.orders order).total.trans (cut_point k) (cut_point s.lo) (cut_point s.hi)
              ((point_laws.orders order).total.antisymm (cut_point k) (cut_point s.lo) ∙ ap ordering_reverse q) up

  -- what is in force at the end of the changes between is what is in force there in the whole
  amid_ends : stands_before s.lo s.hi ≡ true → at_end start (filter (amid reached short) ms) ≡ stop
  amid_ends e =
      after_alike (λ k. true) short start (filter (amid reached short) ms)
      (all_passing (λ m. Unit {0}) (λ m. true ≡ short m.at) (amid reached short) (λ m h u. sym (both_hold (not (reached m.at)) (short m.at) h).1) ms (nothing ms))
      ∙ sym (split reached short short None ms (all_fit e ms (each_of order ms rise)) (ends_behind order s.lo slice.lo ms rise))

  cut_closed : at_end None (changes (cut_to s fs)) ≡ None
  cut_closed =
      ap (λ ns. at_end None ns) (changes_append (filter is_static fs) inner ∙ ap (λ ns. ns ++ changes inner) (no_changes fs))
      ∙ elim (stands_before s.lo s.hi) as (λ b. stands_before s.lo s.hi ≡ b → at_end None (changes (cond b (between_cuts s fs) [])) ≡ None) [
        | true ↦ λ e.
            ap (λ ns. at_end None ns) inner_changes
            ∙ after_append (λ k. true) None (changes (opened_at s.lo start)) (filter (amid reached short) ms ++ changes (closed_at s.hi stop))
            ∙ ap (λ d. at_end d (filter (amid reached short) ms ++ changes (closed_at s.hi stop))) (opened_says (λ k. true) refl start)
            ∙ after_append (λ k. true) start (filter (amid reached short) ms) (changes (closed_at s.hi stop))
            ∙ closed_closes (at_end start (filter (amid reached short) ms)) stop (amid_ends e)
        | false ↦ λ e. refl
      ] refl

  cut_ordered : IsOrdered order (cut_to s fs)
  cut_ordered = record {
    places = keys_ascend (place_cmp order) place_of (cut_to s fs) cut_ascends;
    of = all_cut (IsOf order) (λ d. slice.lo) slice.hi ordered.of;
    closed = cut_closed;
  }

  -- ---- what is said

  kept_static : (gs : List Fragment) → filter (λ f. is_row static_row (row_in f)) gs ≡ filter is_static gs
  kept_static gs = filter_alike (λ f. is_row static_row (row_in f)) is_static each gs
    where
      each : (f : Fragment) → is_row static_row (row_in f) ≡ is_static f
      each (fragment.Static cs) = refl
      each (fragment.Row r) = refl
      each (fragment.Marker k d) = refl

  no_own : (c : List (List ℕ)) (gs : List Fragment) → AllByRecursion (λ f. is_row (clustered c) (row_in f) ≡ false) gs → filter (λ f. is_row (clustered c) (row_in f)) gs ≡ []
  no_own c gs a = filter_none (λ f. is_row (clustered c) (row_in f)) gs a

  own_kept : (r : RowKey) → is_in s r ≡ true → filter (λ f. is_row r (row_in f)) (cut_to s fs) ≡ filter (λ f. is_row r (row_in f)) fs
  own_kept static_row e =
      kept_static (cut_to s fs) ∙ filter_append is_static (filter is_static fs) inner
      ∙ (λ i. filter_twice is_static is_static (λ f h. h) fs i ++ filter_none is_static inner inner_not_static i)
      ∙ append-nil (filter is_static fs) ∙ sym (kept_static fs)
  own_kept (clustered c) e =
      let t : Fragment → Bool = λ f. is_row (clustered c) (row_in f) in
      filter_append t (filter is_static fs) inner
      ∙ (λ i. no_own c (filter is_static fs) (all_passing (λ f. Unit {0}) (λ f. t f ≡ false) is_static (λ f h u. static_apart f h) fs (nothing fs)) i ++ filter t (cond (some_row c e i) (between_cuts s fs) []))
      ∙ filter_append t (opened_at s.lo start) (filter (lies_in s) fs ++ closed_at s.hi stop)
      ∙ (λ i. no_own c (opened_at s.lo start) (all_opened (λ f. t f ≡ false) (λ d. refl) start) i ++ filter_append t (filter (lies_in s) fs) (closed_at s.hi stop) i)
      ∙ (λ i. filter_twice t (lies_in s) row_inside fs i ++ no_own c (closed_at s.hi stop) (all_closed (λ f. t f ≡ false) refl stop) i)
      ∙ append-nil (filter t fs)
    where
      static_apart : (f : Fragment) → is_static f ≡ true → is_row (clustered c) (row_in f) ≡ false
      static_apart (fragment.Static cs) h = refl
      static_apart (fragment.Row r) h = absurd (true≢false (sym h))
      static_apart (fragment.Marker k d) h = absurd (true≢false (sym h))

      row_inside : (f : Fragment) → is_row (clustered c) (row_in f) ≡ true → lies_in s f ≡ true
      row_inside (fragment.Static cs) h = absurd (true≢false (sym h))
      row_inside (fragment.Row r) h = ap (is_inside s.lo s.hi) (equal_values r.clustering.values c h) ∙ e
      row_inside (fragment.Marker k d) h = absurd (true≢false (sym h))

  says_kept : (top : Option Deletion) (r : RowKey) → is_in s r ≡ true → row_says top (cut_to s fs) r ≡ row_says top fs r
  says_kept top r e = λ i. atom_of PartitionDeletion top ++ (atom_of PartitionDeletion (force_kept r e i) ++ flat_map own (own_kept r e i))

  cut_same : (top : Option Deletion) → SameWhere (is_in s) (flat top (cut_to s fs)) (flat top fs)
  cut_same top =
      let there : (r : RowKey) → SameWhere (same_row r) (flat top (cut_to s fs)) (row_says top (cut_to s fs) r) = rows_say_all order top (cut_to s fs) cut_ordered in
      let here : (r : RowKey) → SameWhere (same_row r) (flat top fs) (row_says top fs r) = rows_say_all order top fs ordered in
      record {
        covers = λ x e. (there (row_of x)).covers x (itself (row_of x)) ∙ ap (λ A. cover A x) (says_kept top (row_of x) e) ∙ sym ((here (row_of x)).covers x (itself (row_of x)));
        lives = λ c e. (there (clustered c)).lives c (itself (clustered c)) ∙ ap (λ A. live_winner A c) (says_kept top (clustered c) e) ∙ sym ((here (clustered c)).lives c (itself (clustered c)));
        cells = λ x e. (there (row_of x)).cells x (itself (row_of x)) ∙ ap (λ A. cell_winner A x) (says_kept top (row_of x) e) ∙ sym ((here (row_of x)).cells x (itself (row_of x)));
      }
    where
      itself : (r : RowKey) → same_row r r ≡ true
      itself static_row = refl
      itself (clustered c) = ap is_eq (tied_itself (lists_total bytes_orders.total) c)

  -- ---- markers

  cut_differs : Differ None ms → Differ None (changes (cut_to s fs))
  cut_differs d =
      subst (λ ns. Differ None ns) (sym (changes_append (filter is_static fs) inner ∙ ap (λ ns. ns ++ changes inner) (no_changes fs)))
      (elim (stands_before s.lo s.hi) as (λ b. stands_before s.lo s.hi ≡ b → Differ None (changes (cond b (between_cuts s fs) []))) [
        | true ↦ λ e. subst (λ ns. Differ None ns) (sym inner_changes) (begun start refl e)
        | false ↦ λ e. tt
      ] refl)
    where
      amid_differ : Differ start (filter (amid reached short) ms)
      amid_differ = differ_amid reached short None ms (ends_behind order s.lo slice.lo ms rise) (ends_before order s.hi slice.hi ms rise) d

      ended : (w : Option Deletion) → at_end start (filter (amid reached short) ms) ≡ w → Differ start (filter (amid reached short) ms ++ changes (closed_at s.hi w))
      ended None e = differ_append start (filter (amid reached short) ms) [] amid_differ tt
      ended (Some w) e = differ_append start (filter (amid reached short) ms) (record { at = s.hi; to = None } ∷ []) amid_differ ((λ h. no_some w (sym e ∙ h)), tt)
        where
          no_some : (w : Deletion) → Some w ≡ None → ⊥
          no_some w h = no_none w (sym h)

      begun : (w : Option Deletion) → start ≡ w → stands_before s.lo s.hi ≡ true → Differ None (changes (opened_at s.lo w) ++ (filter (amid reached short) ms ++ changes (closed_at s.hi stop)))
      begun None h e = subst (λ w. Differ w (filter (amid reached short) ms ++ changes (closed_at s.hi stop))) h (ended stop (amid_ends e))
      begun (Some w) h e = ((λ k. no_none w k), subst (λ w. Differ w (filter (amid reached short) ms ++ changes (closed_at s.hi stop))) h (ended stop (amid_ends e)))

pub cut_keeps_the_slice : CutKeepsTheSlice
cut_keeps_the_slice = record {
  ordered = λ order s fs slice ordered. cut_ordered order s fs slice ordered;
  force = λ order s fs slice ordered r e. force_kept order s fs slice ordered r e;
  same = λ order s top fs slice ordered. cut_same order s fs slice ordered top;
}

pub cut_is_well_formed : CutIsWellFormed
cut_is_well_formed columns s fs slice w = record {
  ordered = cut_ordered (clustering_order columns) s fs slice w.ordered;
  fragments = all_cut (clustering_order columns) s fs slice w.ordered (IsFragment columns) (λ d. tt) tt w.fragments;
  markers = cut_differs (clustering_order columns) s fs slice w.ordered w.markers;
}
