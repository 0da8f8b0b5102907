-- The pieces of a partition put together row by row: ordered, and alike to all of them; and which of them a slice wants.
use Rattle.std.proofs.Common.{◌≡◌, ℕ, Bool, true, false, cond, Option, None, Some, List, [], ◌∷◌, ◌++◌, map, filter, refl, sym, ap, ◌∙◌, subst, append_assoc}
use Rattle.std.proofs.lemmas.Bool.{true≢false}
use Rattle.std.specs.Option.{option_cmp}
use Rattle.std.specs.Cmp.{Equal-is}
use Rattle.std.specs.List.{AllByRecursion, flat_map}
use Rattle.std.specs.List.Sorted.{IsStrictlySortedBy}
use Rattle.std.specs.Map.{keys_of}
use Rattle.std.specs.declared.cmp.Ordering.{Ordering}
use Rattle.std.specs.declared.cmp.Ordering.TheVariants.{Less, Equal, Greater}
use Rattle.std.specs.Ordering.{is_lt, is_gt, is_eq, is_le, ordering_then, ordering_reverse}
use Rattle.cas_cell.proofs.OrderLaws.{live_laws, cell_laws}
use Rattle.cas_bounds.specs.Cuts.{is_past}
use Rattle.cas_bounds.specs.Points.{point_cmp, row_point, cut_point, side}
use Rattle.cas_bounds.specs.Keys.{key_cmp, key_point}
use Rattle.cas_bounds.specs.Inner.KeyLaws.{keys_are_points}
use Rattle.cas_bounds.specs.declared.order.Ordered.{Ordered}
use Rattle.cas_bounds.specs.declared.cuts.Cut.{Cut}
use Rattle.cas_bounds.specs.declared.map_key.End.{End}
use Rattle.cas_bounds.specs.declared.map_key.End.TheVariants.{Before, Row, After}
use Rattle.cas_bounds.specs.declared.map_key.MapKey.{MapKey}
use Rattle.cas_bounds.proofs.CutLaws.{point_laws}
use Rattle.cas_atoms.specs.Coordinates.{live_at_row, cell_at_path}
use Rattle.cas_atoms.proofs.GreatestLemmas.{greatest-append}
use Rattle.cas_laws.proofs.JoinProofs.{cover_joins}
use Rattle.cas_streams.specs.Places.{Place, place_cmp, place_of}
use Rattle.cas_streams.specs.Flat.{own, changes, at_end}
use Rattle.cas_streams.specs.Streams.{IsOf as IsFragmentOf, IsOrdered}
use Rattle.cas_streams.specs.Joined.{joined_fragment, fragment_cmp}
use Rattle.cas_streams.specs.declared.fragment.Fragment.{Fragment}
use Rattle.cas_streams.specs.declared.fragment.Fragment.TheVariants as fragment
use Rattle.cas_streams.proofs.Weaves.{Ascend, keys_ascend}
use Rattle.cas_streams.proofs.Twins.{Twins, twins, same_place, twins_delete, twins_live, twins_write}
use Rattle.cas_streams.proofs.Forces.{as_places, places_total}
use Rattle.cas_streams.proofs.Joining.{Alike, alike_then, alike_both}
use Rattle.cas_partition.specs.Ranges.{key_of}
use Rattle.cas_partition.specs.Spots.{spot_cmp, piece}
use Rattle.cas_partition.specs.Partitions.{IsRowOf}
use Rattle.cas_partition.specs.Slices.{grouped_from, grouped, meet_from, meet, Halves, few, both, pieces_in, rows_by}
use Rattle.cas_partition.specs.Ranged.{piece_of, below_rows}
use Rattle.cas_partition.specs.declared.spot.Spot.{Spot}
use Rattle.cas_partition.specs.declared.spot.Content.{Content}
use Rattle.cas_partition.proofs.Saying.{alike_itself, alike_is, Rows}

-- ---- what they say

twins_alike : (f g : Fragment) → Twins f g → Alike (own (joined_fragment f g)) (own f ++ own g)
twins_alike f g t = record {
  covers = λ x. twins_delete x f g t ∙ sym (cover_joins (own f) (own g) x);
  lives = λ c. twins_live c f g t ∙ sym (greatest-append live_laws.orders (live_at_row c) (own f) (own g));
  cells = λ x. twins_write x f g t ∙ sym (greatest-append cell_laws.orders (cell_at_path x) (own f) (own g));
}

from_alike : (f : Fragment) (gs : List Fragment) → Alike (flat_map own (grouped_from f gs)) (own f ++ flat_map own gs)
from_alike f [] = alike_itself (own f ++ [])
from_alike f (g ∷ gs) =
    elim (is_eq (fragment_cmp f g)) as (λ b. is_eq (fragment_cmp f g) ≡ b
    → Alike (flat_map own (cond b (grouped_from (joined_fragment f g) gs) (f ∷ grouped_from g gs))) (own f ++ (own g ++ flat_map own gs))) [
      | true ↦ λ e.
          alike_then (from_alike (joined_fragment f g) gs)
          (alike_then (alike_both (twins_alike f g (twins f g ((Equal-is (fragment_cmp f g)).0 e))) (alike_itself (flat_map own gs)))
          (alike_is ((own f ++ own g) ++ flat_map own gs) (own f ++ (own g ++ flat_map own gs)) (append_assoc (own f) (own g) (flat_map own gs))))
      | false ↦ λ e. alike_both (alike_itself (own f)) (from_alike g gs)
    ] refl

grouped_alike : (fs : List Fragment) → Alike (flat_map own (grouped None fs)) (flat_map own fs)
grouped_alike [] = alike_itself []
grouped_alike (f ∷ fs) = from_alike f fs

flat_append : (A B : List Fragment) → flat_map own (A ++ B) ≡ flat_map own A ++ flat_map own B
flat_append [] B = refl
flat_append (f ∷ A) B = ap (λ l. own f ++ l) (flat_append A B) ∙ sym (append_assoc (own f) (flat_map own A) (flat_map own B))

meet_from_alike : (f : Fragment) (fs gs : List Fragment) → Alike (flat_map own (meet_from f fs gs)) (own f ++ (flat_map own fs ++ flat_map own gs))
meet_from_alike f [] [] = alike_itself (own f ++ [])
meet_from_alike f [] (g ∷ gs) =
    alike_then (alike_is (flat_map own (grouped_from f (g ∷ []) ++ gs)) (flat_map own (grouped_from f (g ∷ [])) ++ flat_map own gs) (flat_append (grouped_from f (g ∷ [])) gs))
    (alike_then (alike_both (from_alike f (g ∷ [])) (alike_itself (flat_map own gs)))
    (alike_is ((own f ++ (own g ++ [])) ++ flat_map own gs) (own f ++ (own g ++ flat_map own gs))
    (append_assoc (own f) (own g ++ []) (flat_map own gs) ∙ ap (λ l. own f ++ l) (append_assoc (own g) [] (flat_map own gs)))))
meet_from_alike f (h ∷ fs) gs =
    alike_then (alike_both (alike_itself (own f)) (meet_from_alike h fs gs))
    (alike_is (own f ++ (own h ++ (flat_map own fs ++ flat_map own gs))) (own f ++ ((own h ++ flat_map own fs) ++ flat_map own gs))
    (ap (λ l. own f ++ l) (sym (append_assoc (own h) (flat_map own fs) (flat_map own gs)))))

meet_alike : (fs gs : List Fragment) → Alike (flat_map own (meet fs gs)) (flat_map own fs ++ flat_map own gs)
meet_alike [] gs = alike_itself (flat_map own gs)
meet_alike (f ∷ fs) gs =
    alike_then (meet_from_alike f fs gs)
    (alike_is (own f ++ (flat_map own fs ++ flat_map own gs)) ((own f ++ flat_map own fs) ++ flat_map own gs) (sym (append_assoc (own f) (flat_map own fs) (flat_map own gs))))

-- the rows say what their pieces say
pub halves_alike : (h : Halves) → Alike (flat_map own (rows_by h)) (flat_map own (pieces_in h))
halves_alike (few fs) = grouped_alike fs
halves_alike (both a b) =
    alike_then (meet_alike (rows_by a) (rows_by b))
    (alike_then (alike_both (halves_alike a) (halves_alike b))
    (alike_is (flat_map own (pieces_in a) ++ flat_map own (pieces_in b)) (flat_map own (pieces_in a ++ pieces_in b)) (sym (flat_append (pieces_in a) (pieces_in b)))))

-- ---- a fact of each piece that is kept when two are put together

module _ (P : Fragment → Type 0) (joins : (f g : Fragment) → Twins f g → P f → P g → P (joined_fragment f g)) where
  append_each : (A B : List Fragment) → AllByRecursion P A → AllByRecursion P B → AllByRecursion P (A ++ B)
  append_each [] B a b = b
  append_each (f ∷ A) B a b = (a.0, append_each A B a.1 b)

  split_each : (A B : List Fragment) → AllByRecursion P (A ++ B) → AllByRecursion P A × AllByRecursion P B
  split_each [] B all = (tt, all)
  split_each (f ∷ A) B all = let (a, b) = split_each A B all.1 in ((all.0, a), b)

  from_each : (f : Fragment) (gs : List Fragment) → P f → AllByRecursion P gs → AllByRecursion P (grouped_from f gs)
  from_each f [] p all = (p, tt)
  from_each f (g ∷ gs) p all =
      elim (is_eq (fragment_cmp f g)) as (λ b. is_eq (fragment_cmp f g) ≡ b → AllByRecursion P (cond b (grouped_from (joined_fragment f g) gs) (f ∷ grouped_from g gs))) [
        | true ↦ λ e. from_each (joined_fragment f g) gs (joins f g (twins f g ((Equal-is (fragment_cmp f g)).0 e)) p all.0) all.1
        | false ↦ λ e. (p, from_each g gs all.0 all.1)
      ] refl

  pub meet_from_each : (f : Fragment) (fs gs : List Fragment) → P f → AllByRecursion P fs → AllByRecursion P gs → AllByRecursion P (meet_from f fs gs)
  meet_from_each f [] [] p a b = (p, tt)
  meet_from_each f [] (g ∷ gs) p a b = append_each (grouped_from f (g ∷ [])) gs (from_each f (g ∷ []) p (b.0, tt)) b.1
  meet_from_each f (h ∷ fs) gs p a b = (p, meet_from_each h fs gs a.0 a.1 b)

  meet_each : (fs gs : List Fragment) → AllByRecursion P fs → AllByRecursion P gs → AllByRecursion P (meet fs gs)
  meet_each [] gs a b = b
  meet_each (f ∷ fs) gs a b = meet_from_each f fs gs a.0 a.1 b

  pub halves_each : (h : Halves) → AllByRecursion P (pieces_in h) → AllByRecursion P (rows_by h)
  halves_each (few []) all = tt
  halves_each (few (f ∷ fs)) all = from_each f fs all.0 all.1
  halves_each (both a b) all =
      let (left, right) = split_each (pieces_in a) (pieces_in b) all in
      meet_each (rows_by a) (rows_by b) (halves_each a left) (halves_each b right)

-- ---- where they stand

-- no marker
abbrev Plain : Fragment → Type 0
Plain (fragment.Static cs) = Unit {0}
Plain (fragment.Row r) = Unit {0}
Plain (fragment.Marker cut d) = ⊥

module _ (order : List Ordered) where
  abbrev pub OfRow : Fragment → Type 0
  OfRow f = IsFragmentOf order f × Plain f

  joined_row_of : (f g : Fragment) → Twins f g → OfRow f → OfRow (joined_fragment f g)
  joined_row_of (fragment.Static cs) (fragment.Static ds) t of = of
  joined_row_of (fragment.Row r) (fragment.Row s) t of = of
  joined_row_of (fragment.Marker k d) g t of = absurd of.1
  joined_row_of (fragment.Static cs) (fragment.Row s) t of = absurd t
  joined_row_of (fragment.Static cs) (fragment.Marker k d) t of = absurd t
  joined_row_of (fragment.Row r) (fragment.Static ds) t of = absurd t
  joined_row_of (fragment.Row r) (fragment.Marker k d) t of = absurd t

  -- none is before the first
  abbrev Behind : Place → List Fragment → Type 0
  Behind p fs = AllByRecursion (λ g. is_gt (place_cmp order p (place_of g)) ≡ false) fs

  pub Weak : List Fragment → Type 0
  Weak [] = Unit {0}
  Weak (f ∷ fs) = Behind (place_of f) fs × Weak fs

  abbrev Past : Place → List Fragment → Type 0
  Past p fs = AllByRecursion (λ g. place_cmp order p (place_of g) ≡ Less) fs

  from_after : (p : Place) (f : Fragment) (gs : List Fragment) → place_cmp order p (place_of f) ≡ Less → Past p gs → Past p (grouped_from f gs)
  from_after p f [] lt all = (lt, tt)
  from_after p f (g ∷ gs) lt all =
      elim (is_eq (fragment_cmp f g)) as (λ b. Past p (cond b (grouped_from (joined_fragment f g) gs) (f ∷ grouped_from g gs))) [
        | true ↦ from_after p (joined_fragment f g) gs (ap (place_cmp order p) (same_place f g) ∙ lt) all.1
        | false ↦ (lt, from_after p g gs all.0 all.1)
      ]

  less_of : (r : Ordering) → is_gt r ≡ false → is_eq r ≡ false → r ≡ Less
  less_of Less g e = refl
  less_of Equal g e = absurd (true≢false e)
  less_of Greater g e = absurd (true≢false g)

  less_then : (p q r : Place) → place_cmp order p q ≡ Less → is_gt (place_cmp order q r) ≡ false → place_cmp order p r ≡ Less
  less_then p q r lt weak = go (place_cmp order q r) refl weak
    where
      go : (o : Ordering) → place_cmp order q r ≡ o → is_gt o ≡ false → place_cmp order p r ≡ Less
      go Less e w = (places_total order).trans p q r lt e
      go Equal e w =
          (places_total order).antisymm p r
          ∙ ap ordering_reverse (sym ((places_total order).congr q r p e))
          ∙ sym ((places_total order).antisymm p q) ∙ lt
      go Greater e w = absurd (true≢false w)

  after_weak : (p q : Place) (fs : List Fragment) → place_cmp order p q ≡ Less → Behind q fs → Past p fs
  after_weak p q [] lt weak = tt
  after_weak p q (f ∷ fs) lt weak = (less_then p q (place_of f) lt weak.0, after_weak p q fs lt weak.1)

  from_ascend : (f : Fragment) (gs : List Fragment) → OfRow f → AllByRecursion OfRow gs → Behind (place_of f) gs → Weak gs → Ascend (place_cmp order) place_of (grouped_from f gs)
  unfolding Weak
  from_ascend f [] of all first weak = (tt, tt)
  from_ascend f (g ∷ gs) of all first weak =
      elim (is_eq (fragment_cmp f g)) as (λ b. is_eq (fragment_cmp f g) ≡ b → Ascend (place_cmp order) place_of (cond b (grouped_from (joined_fragment f g) gs) (f ∷ grouped_from g gs))) [
        | true ↦ λ e.
            from_ascend (joined_fragment f g) gs (joined_row_of f g (twins f g ((Equal-is (fragment_cmp f g)).0 e)) of) all.1
            (subst (λ p. Behind p gs) (sym (same_place f g)) first.1) weak.1
        | false ↦ λ e.
            let lt : place_cmp order (place_of f) (place_of g) ≡ Less = less_of (place_cmp order (place_of f) (place_of g)) first.0 (ap is_eq (sym (as_places order f g of.0)) ∙ e) in
            (from_after (place_of f) g gs lt (after_weak (place_of f) (place_of g) gs lt weak.0), from_ascend g gs all.0 all.1 weak.0 weak.1)
      ] refl

  no_changes : (fs : List Fragment) → AllByRecursion OfRow fs → changes fs ≡ []
  no_changes [] all = refl
  no_changes (fragment.Static cs ∷ fs) all = no_changes fs all.1
  no_changes (fragment.Row r ∷ fs) all = no_changes fs all.1
  no_changes (fragment.Marker k d ∷ fs) all = absurd all.0.1

  orders_of : (fs : List Fragment) → AllByRecursion OfRow fs → AllByRecursion (IsFragmentOf order) fs
  orders_of [] all = tt
  orders_of (f ∷ fs) all = (all.0.0, orders_of fs all.1)

  placed : (Q : Place → Type 0) (f g : Fragment) → Twins f g → Q (place_of f) → Q (place_of g) → Q (place_of (joined_fragment f g))
  placed Q f g t p q = subst Q (sym (same_place f g)) p

  later : (f g : Fragment) (gs : List Fragment) → place_cmp order (place_of f) (place_of g) ≡ Less → Past (place_of g) gs → Past (place_of f) gs
  later f g [] lt past = tt
  later f g (h ∷ gs) lt past = ((places_total order).trans (place_of f) (place_of g) (place_of h) lt past.0, later f g gs lt past.1)

  likewise : (f g : Fragment) (gs : List Fragment) → place_cmp order (place_of f) (place_of g) ≡ Equal → Past (place_of g) gs → Past (place_of f) gs
  likewise f g [] eq past = tt
  likewise f g (h ∷ gs) eq past = ((places_total order).congr (place_of f) (place_of g) (place_of h) eq ∙ past.0, likewise f g gs eq past.1)

  abbrev Rises : List Fragment → Type 0
  Rises fs = Ascend (place_cmp order) place_of fs

  two_ascend : (f g : Fragment) (gs : List Fragment) → OfRow f → is_gt (place_cmp order (place_of f) (place_of g)) ≡ false → Rises (g ∷ gs) → Rises (grouped_from f (g ∷ []) ++ gs)
  two_ascend f g gs of weak rise =
      elim (is_eq (fragment_cmp f g)) as (λ b. is_eq (fragment_cmp f g) ≡ b → Rises (cond b (joined_fragment f g ∷ []) (f ∷ g ∷ []) ++ gs)) [
        | true ↦ λ e.
            let eq : place_cmp order (place_of f) (place_of g) ≡ Equal = sym (as_places order f g of.0) ∙ (Equal-is (fragment_cmp f g)).0 e in
            (subst (λ p. Past p gs) (sym (same_place f g)) (likewise f g gs eq rise.0), rise.1)
        | false ↦ λ e.
            let lt : place_cmp order (place_of f) (place_of g) ≡ Less = less_of (place_cmp order (place_of f) (place_of g)) weak (ap is_eq (sym (as_places order f g of.0)) ∙ e) in
            ((lt, later f g gs lt rise.0), rise)
      ] refl

  abbrev Across : List Fragment → List Fragment → Type 0
  Across fs gs = AllByRecursion (λ f. Behind (place_of f) gs) fs

  meet_from_ascend : (f : Fragment) (fs gs : List Fragment) → OfRow f → AllByRecursion OfRow fs → Rises (f ∷ fs) → Rises gs → Across (f ∷ fs) gs → Rises (meet_from f fs gs)
  meet_from_ascend f [] [] of all a b across = (tt, tt)
  meet_from_ascend f [] (g ∷ gs) of all a b across = two_ascend f g gs of across.0.0 b
  meet_from_ascend f (h ∷ fs) gs of all a b across = (
    meet_from_each (λ k. place_cmp order (place_of f) (place_of k) ≡ Less) (λ k l t p q. placed (λ r. place_cmp order (place_of f) r ≡ Less) k l t p q) h fs gs
        a.0.0 a.0.1 (after_weak (place_of f) (place_of h) gs a.0.0 across.1.0),
    meet_from_ascend h fs gs all.0 all.1 a.1 b across.1,
  )

  meet_ascend : (fs gs : List Fragment) → AllByRecursion OfRow fs → Rises fs → Rises gs → Across fs gs → Rises (meet fs gs)
  meet_ascend [] gs all a b across = b
  meet_ascend (f ∷ fs) gs all a b across = meet_from_ascend f fs gs all.0 all.1 a b across

  behind_parts : (p : Place) (A B : List Fragment) → Behind p (A ++ B) → Behind p A × Behind p B
  behind_parts p [] B b = (tt, b)
  behind_parts p (f ∷ A) B b = let (x, y) = behind_parts p A B b.1 in ((b.0, x), y)

  weak_parts : (A B : List Fragment) → Weak (A ++ B) → Weak A × Weak B × Across A B
  unfolding Weak
  weak_parts [] B w = (tt, w, tt)
  weak_parts (f ∷ A) B w =
      let (a, b, c) = weak_parts A B w.1 in
      let (x, y) = behind_parts (place_of f) A B w.0 in
      ((x, a), b, (y, c))

  across_rows : (A : List Fragment) (h : Halves) → Across A (pieces_in h) → Across A (rows_by h)
  across_rows [] h a = tt
  across_rows (f ∷ A) h a = (
    halves_each (λ g. is_gt (place_cmp order (place_of f) (place_of g)) ≡ false) (λ k l t p q. placed (λ r. is_gt (place_cmp order (place_of f) r) ≡ false) k l t p q) h a.0,
    across_rows A h a.1,
  )

  all_of_rows : (h : Halves) → AllByRecursion OfRow (pieces_in h) → AllByRecursion OfRow (rows_by h)
  all_of_rows h all = halves_each OfRow (λ f g t p q. joined_row_of f g t p) h all

  halves_ascend : (h : Halves) → AllByRecursion OfRow (pieces_in h) → Weak (pieces_in h) → Rises (rows_by h)
  unfolding Weak
  halves_ascend (few []) all weak = tt
  halves_ascend (few (f ∷ fs)) all weak = from_ascend f fs all.0 all.1 weak.0 weak.1
  halves_ascend (both a b) all weak =
      let (left, right, across) = weak_parts (pieces_in a) (pieces_in b) weak in
      let (mine, others) = split_each OfRow (λ f g t p q. joined_row_of f g t p) (pieces_in a) (pieces_in b) all in
      meet_ascend (rows_by a) (rows_by b) (all_of_rows a mine) (halves_ascend a mine left) (halves_ascend b others right)
      (halves_each (λ f. Behind (place_of f) (rows_by b)) (λ k l t p q. placed (λ r. Behind r (rows_by b)) k l t p q) a (across_rows (pieces_in a) b across))

  pub halves_ordered : (h : Halves) → AllByRecursion OfRow (pieces_in h) → Weak (pieces_in h) → IsOrdered order (rows_by h) × (changes (rows_by h) ≡ [])
  halves_ordered h all weak =
      let rows : AllByRecursion OfRow (rows_by h) = all_of_rows h all in
      let none : changes (rows_by h) ≡ [] = no_changes (rows_by h) rows in (
        record {
          places = keys_ascend (place_cmp order) place_of (rows_by h) (halves_ascend h all weak);
          of = orders_of (rows_by h) rows;
          closed = ap (at_end None) none;
        },
        none,
      )

  -- ---- pieces by their spots

  row_place : Option MapKey → Place
  row_place None = None
  row_place (Some k) = Some (row_point k.values)

  stands : (row : Option MapKey) (column : Option ℕ) (path : Option (List ℕ)) (c : Content) → place_of (piece row column path c) ≡ row_place row
  unfolding row_place
  stands None column path c = refl
  stands (Some k) column path c = refl

  piece_of_row : (row : Option MapKey) (column : Option ℕ) (path : Option (List ℕ)) (c : Content) → IsRowOf order row → OfRow (piece row column path c)
  piece_of_row None column path c of = (tt, tt)
  piece_of_row (Some k) column path c of = (of.1, tt)

  as_row : (k : MapKey) → k.end ≡ Row → key_point k ≡ row_point k.values
  as_row k e = λ i. record { end = e i; values = k.values }

  pub key_rows : (k l : MapKey) → IsRowOf order (Some k) → IsRowOf order (Some l) → key_cmp k l ≡ point_cmp order (row_point k.values) (row_point l.values)
  key_rows k l a b = keys_are_points k l (a.1 ∙ sym b.1) ∙ (λ i. point_cmp (a.1 i) (as_row k a.0 i) (as_row l b.0 i))

  then_less : (r o : Ordering) → ordering_then r o ≡ Less → is_gt r ≡ false
  then_less Less o e = refl
  then_less Equal o e = refl
  then_less Greater o e = absurd (true≢false (ap is_gt e))

  rows_weak : (r s : Option MapKey) (o : Ordering) → IsRowOf order r → IsRowOf order s → ordering_then (option_cmp key_cmp r s) o ≡ Less → is_gt (place_cmp order (row_place r) (row_place s)) ≡ false
  unfolding row_place
  rows_weak None None o a b e = refl
  rows_weak None (Some l) o a b e = refl
  rows_weak (Some k) None o a b e = absurd (true≢false (ap is_gt e))
  rows_weak (Some k) (Some l) o a b e = ap is_gt (sym (key_rows k l a b)) ∙ then_less (key_cmp k l) o e

  abbrev Entries : Type 0
  Entries = List (Spot × Content)

  pub pieces_of : (es : Entries) → Rows order es → AllByRecursion OfRow (map piece_of es)
  pieces_of [] rows = tt
  pieces_of (e ∷ es) rows = (piece_of_row e.0.row e.0.column e.0.path e.1 rows.0, pieces_of es rows.1)

  -- what is kept of entries, by a test
  module _ (p : Spot × Content → Bool) where
    pub kept_rows : (es : Entries) → Rows order es → Rows order (filter p es)
    kept_rows [] rows = tt
    kept_rows (e ∷ es) rows = elim (p e) as (λ b. Rows order (cond b (e ∷ filter p es) (filter p es))) [ true ↦ (rows.0, kept_rows es rows.1) | false ↦ kept_rows es rows.1 ]

    kept_behind : (e : Spot × Content) (es : Entries) → IsRowOf order e.0.row → Rows order es → AllByRecursion (λ t. spot_cmp e.0 t ≡ Less) (keys_of es) → Behind (place_of (piece_of e)) (map piece_of (filter p es))
    kept_behind e [] row rows less = tt
    kept_behind e (f ∷ es) row rows less =
        elim (p f) as (λ b. Behind (place_of (piece_of e)) (map piece_of (cond b (f ∷ filter p es) (filter p es)))) [
          | true ↦ (
            (λ i. is_gt (place_cmp order (stands e.0.row e.0.column e.0.path e.1 i) (stands f.0.row f.0.column f.0.path f.1 i))) ∙ rows_weak e.0.row f.0.row _ row rows.0 less.0,
            kept_behind e es row rows.1 less.1,
          )
          | false ↦ kept_behind e es row rows.1 less.1
        ]

    pub kept_weak : (es : Entries) → IsStrictlySortedBy spot_cmp (keys_of es) → Rows order es → Weak (map piece_of (filter p es))
    unfolding Weak IsStrictlySortedBy
    kept_weak [] sorted rows = tt
    kept_weak (e ∷ es) sorted rows =
        elim (p e) as (λ b. Weak (map piece_of (cond b (e ∷ filter p es) (filter p es)))) [
          | true ↦ (kept_behind e es rows.0 rows.1 sorted.0, kept_weak es sorted.1 rows.1)
          | false ↦ kept_weak es sorted.1 rows.1
        ]

  pub cross : (A B : List Fragment) → AllByRecursion (λ f. place_of f ≡ None) A → Weak A → Weak B → Weak (A ++ B)
  unfolding Weak
  cross [] B none a b = b
  cross (f ∷ A) B none a b = (both A a.0, cross A B none.1 a.1 b)
    where
      first : (q : Place) → is_gt (place_cmp order None q) ≡ false
      first None = refl
      first (Some p) = refl

      anywhere : (B : List Fragment) → Behind (place_of f) B
      anywhere [] = tt
      anywhere (g ∷ B) = (ap (λ p. is_gt (place_cmp order p (place_of g))) none.0 ∙ first (place_of g), anywhere B)

      both : (A : List Fragment) → Behind (place_of f) A → Behind (place_of f) (A ++ B)
      both [] a = anywhere B
      both (g ∷ A) a = (a.0, both A a.1)

  -- ---- the entries of a slice

  pub no_key : (k : MapKey) → k.end ≡ Row → key_cmp below_rows k ≡ Less
  no_key k e = ap (λ d. key_cmp below_rows (record { values = k.values; end = d; order = k.order })) e ∙ go k.order k.values
    where
      go : (o : List Ordered) (v : List (List ℕ)) → key_cmp below_rows (record { values = v; end = Row; order = o }) ≡ Less
      go [] [] = refl
      go [] (x ∷ v) = refl
      go (x ∷ o) v = refl

  then_le : (r o : Ordering) → is_eq r ≡ false → is_le (ordering_then r o) ≡ is_lt r
  then_le Less o e = refl
  then_le Equal o e = absurd (true≢false e)
  then_le Greater o e = refl

  is_row_end : End → Bool
  is_row_end Before = false
  is_row_end Row = true
  is_row_end After = false

  no_side : (b : Bool) → is_row_end (side b) ≡ false
  unfolding is_row_end
  no_side true = refl
  no_side false = refl

  no_tie : (cut : Cut) (v : List (List ℕ)) → is_eq (point_cmp order (cut_point cut) (row_point v)) ≡ false
  unfolding is_row_end
  no_tie cut v = go (point_cmp order (cut_point cut) (row_point v)) refl
    where
      go : (r : Ordering) → point_cmp order (cut_point cut) (row_point v) ≡ r → is_eq r ≡ false
      go Less e = refl
      go Equal e = absurd (true≢false (sym (ap (λ p. is_row_end p.end) ((point_laws.orders order).ties (cut_point cut) (row_point v) e)) ∙ no_side cut.after))
      go Greater e = refl

  pub past_key : (cut : Cut) (k : MapKey) (o : Ordering) → cut.order ≡ order → IsRowOf order (Some k) → is_le (ordering_then (key_cmp (key_of cut) k) o) ≡ is_past cut k.values
  past_key cut k o e of =
      let turned : key_cmp (key_of cut) k ≡ point_cmp order (cut_point cut) (row_point k.values) =
      keys_are_points (key_of cut) k (e ∙ sym of.1) ∙ (λ i. point_cmp (e i) (cut_point cut) (as_row k of.0 i)) in
      ap (λ r. is_le (ordering_then r o)) turned ∙ then_le (point_cmp order (cut_point cut) (row_point k.values)) o (no_tie cut k.values)
      ∙ sym (point_laws.past cut k.values ∙ ap (λ q. is_lt (point_cmp q (cut_point cut) (row_point k.values))) e)
