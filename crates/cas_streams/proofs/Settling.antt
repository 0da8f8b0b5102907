-- A settled stream is ordered as it was, and says the same.
use Rattle.std.proofs.Common.{◌≡◌, ℕ, Bool, true, false, cond, Option, None, Some, List, [], ◌∷◌, ◌++◌, inl, inr, refl, sym, ap, ◌∙◌, subst}
use Rattle.std.proofs.lemmas.Bool.{true≢false}
use Rattle.std.specs.List.{AllByRecursion, flat_map, cons_option}
use Rattle.std.specs.Ordering.{is_eq, is_lt, ordering_reverse}
use Rattle.std.specs.declared.cmp.Ordering.{Ordering}
use Rattle.std.specs.declared.cmp.Ordering.TheVariants.{Less, Equal, Greater}
use Rattle.std.proofs.lemmas.Cmp.{tied_itself}
use Rattle.cas_cell.specs.Deletions.{deletion_cmp}
use Rattle.cas_cell.specs.Lives.{live_at}
use Rattle.cas_cell.specs.Cells.{cell_at}
use Rattle.cas_cell.specs.declared.deletion.Deletion.{Deletion}
use Rattle.cas_cell.proofs.OrderLaws.{deletion_laws, live_laws, cell_laws}
use Rattle.cas_bounds.specs.Cuts.{is_past}
use Rattle.cas_bounds.specs.Points.{point_cmp, row_point, cut_point}
use Rattle.cas_bounds.specs.declared.order.Ordered.{Ordered}
use Rattle.cas_bounds.specs.declared.cuts.Cut.{Cut}
use Rattle.cas_bounds.proofs.CutLaws.{point_laws}
use Rattle.cas_atoms.specs.Greatest.{greater}
use Rattle.cas_atoms.specs.Coordinates.{Coordinate, RowKey, row, clustered, static_row, row_of, same_row, live_at_row, cell_at_path}
use Rattle.cas_atoms.specs.Winners.{cover, standing, Same}
use Rattle.cas_atoms.specs.declared.atom.Atom.{Atom}
use Rattle.cas_atoms.specs.declared.row.Row.{Row}
use Rattle.cas_atoms.proofs.GreatestLemmas.{greater_self}
use Rattle.cas_laws.specs.Given.{Has}
use Rattle.cas_laws.proofs.JoinProofs.{cover_joins, winner_is}
use Rattle.cas_laws.proofs.ShownProofs.{equal_rows}
use Rattle.cas_streams.specs.Places.{Place, place_cmp, place_of}
use Rattle.cas_streams.specs.Flat.{changes, after, reaching, in_force, own}
use Rattle.cas_streams.specs.Streams.{IsOf, IsOrdered, Differ}
use Rattle.cas_streams.specs.Joined.{Stream}
use Rattle.cas_streams.specs.Settled.{if_said, bare, same_force, settled_from, settled}
use Rattle.cas_streams.specs.Merged.{flat_of}
use Rattle.cas_streams.specs.declared.fragment.Fragment.{Fragment}
use Rattle.cas_streams.specs.declared.fragment.Fragment.TheVariants as fragment
use Rattle.cas_streams.proofs.Weaves.{Ascend, keys_ascend}
use Rattle.cas_streams.proofs.Rows.{stream_covers, stream_gives}
use Rattle.cas_streams.proofs.Bare.{Below, below_left, below_right, Under, under_both, said, static_left, row_left}
use Rattle.cas_streams.proofs.Forces.{Falls, Stopped, stopped, Behind, InOrder, later, stop_behind}
use Rattle.cas_streams.proofs.Joining.{in_order, at_points, always_falls, past_falls}

-- ---- the test of what is in force

pub same_force_is : (d e : Option Deletion) → same_force d e ≡ true → d ≡ e
same_force_is None None t = refl
same_force_is None (Some e) t = absurd (true≢false (sym t))
same_force_is (Some d) None t = absurd (true≢false (sym t))
same_force_is (Some d) (Some e) t = ap Some (deletion_laws.orders.ties d e (equal (deletion_cmp d e) t))
  where
    equal : (r : Ordering) → is_eq r ≡ true → r ≡ Equal
    equal Less f = absurd (true≢false (sym f))
    equal Equal f = refl
    equal Greater f = absurd (true≢false (sym f))

pub same_force_itself : (d : Option Deletion) → same_force d d ≡ true
same_force_itself None = refl
same_force_itself (Some d) = ap is_eq (tied_itself deletion_laws.orders.total d)

-- ---- a fact of each fragment

module _ (P : Fragment → Type 0) where
  all_said : (atoms : List Atom) (f : Fragment) (rest : List Fragment) → P f → AllByRecursion P rest → AllByRecursion P (cons_option (if_said atoms f) rest)
  all_said [] f rest p all = all
  all_said (a ∷ atoms) f rest p all = (p, all)

  all_marked : (b : Bool) (f : Fragment) (rest : List Fragment) → P f → AllByRecursion P rest → AllByRecursion P (cons_option (cond b None (Some f)) rest)
  all_marked true f rest p all = all
  all_marked false f rest p all = (p, all)

  pub settled_all : (top now : Option Deletion) → ((now : Option Deletion) (f : Fragment) → P f → P (bare top now f)) → (fs : List Fragment) → AllByRecursion P fs → AllByRecursion P (settled_from top now fs)
  settled_all top now h [] all = tt
  settled_all top now h (fragment.Static cs ∷ fs) all =
      all_said (own (bare top now (fragment.Static cs))) (bare top now (fragment.Static cs)) (settled_from top now fs) (h now (fragment.Static cs) all.0) (settled_all top now h fs all.1)
  settled_all top now h (fragment.Row r ∷ fs) all =
      all_said (own (bare top now (fragment.Row r))) (bare top now (fragment.Row r)) (settled_from top now fs) (h now (fragment.Row r) all.0) (settled_all top now h fs all.1)
  settled_all top now h (fragment.Marker cut d ∷ fs) all = all_marked (same_force now d) (fragment.Marker cut d) (settled_from top d fs) (h now (fragment.Marker cut d) all.0) (settled_all top d h fs all.1)

-- ---- order

module _ (order : List Ordered) (top : Option Deletion) where
  bare_of : (now : Option Deletion) (f : Fragment) → IsOf order f → IsOf order (bare top now f)
  bare_of now (fragment.Static cs) of = tt
  bare_of now (fragment.Row r) of = of
  bare_of now (fragment.Marker cut d) of = of

  bare_behind : (p : Place) (now : Option Deletion) (f : Fragment) → place_cmp order p (place_of f) ≡ Less → place_cmp order p (place_of (bare top now f)) ≡ Less
  bare_behind p now (fragment.Static cs) e = e
  bare_behind p now (fragment.Row r) e = e
  bare_behind p now (fragment.Marker cut d) e = e

  behind : (p : Place) (now : Option Deletion) (fs : List Fragment) → Behind order p fs → Behind order p (settled_from top now fs)
  behind p now fs b = settled_all (λ f. place_cmp order p (place_of f) ≡ Less) top now (bare_behind p) fs b

  ascend_said : (atoms : List Atom) (f : Fragment) (rest : List Fragment) → Behind order (place_of f) rest → Ascend (place_cmp order) place_of rest → Ascend (place_cmp order) place_of (cons_option (if_said atoms f) rest)
  ascend_said [] f rest b a = a
  ascend_said (x ∷ atoms) f rest b a = (b, a)

  ascend_marked : (t : Bool) (f : Fragment) (rest : List Fragment) → Behind order (place_of f) rest → Ascend (place_cmp order) place_of rest → Ascend (place_cmp order) place_of (cons_option (cond t None (Some f)) rest)
  ascend_marked true f rest b a = a
  ascend_marked false f rest b a = (b, a)

  settled_ascend : (now : Option Deletion) (fs : List Fragment) → Ascend (place_cmp order) place_of fs → Ascend (place_cmp order) place_of (settled_from top now fs)
  settled_ascend now [] a = tt
  settled_ascend now (fragment.Static cs ∷ fs) a =
      ascend_said (own (bare top now (fragment.Static cs))) (bare top now (fragment.Static cs)) (settled_from top now fs) (behind None now fs a.0) (settled_ascend now fs a.1)
  settled_ascend now (fragment.Row r ∷ fs) a =
      ascend_said (own (bare top now (fragment.Row r))) (bare top now (fragment.Row r)) (settled_from top now fs) (behind (Some (row_point r.clustering.values)) now fs a.0) (settled_ascend now fs a.1)
  settled_ascend now (fragment.Marker cut d ∷ fs) a = ascend_marked (same_force now d) (fragment.Marker cut d) (settled_from top d fs) (behind (Some (cut_point cut)) d fs a.0) (settled_ascend d fs a.1)

  pub settled_in_order : (now : Option Deletion) (fs : List Fragment) → InOrder order fs → InOrder order (settled_from top now fs)
  settled_in_order now fs i = record { ascend = settled_ascend now fs i.ascend; of = settled_all (IsOf order) top now bare_of fs i.of }

-- ---- what is in force

changes_said : (atoms : List Atom) (f : Fragment) (rest : List Fragment) → changes (f ∷ rest) ≡ changes rest → changes (cons_option (if_said atoms f) rest) ≡ changes rest
changes_said [] f rest e = refl
changes_said (a ∷ atoms) f rest e = e

pub settled_differ : (top now : Option Deletion) (fs : List Fragment) → Differ now (changes (settled_from top now fs))
settled_differ top now [] = tt
settled_differ top now (fragment.Static cs ∷ fs) =
    subst (Differ now) (sym (changes_said (own (bare top now (fragment.Static cs))) (bare top now (fragment.Static cs)) (settled_from top now fs) refl)) (settled_differ top now fs)
settled_differ top now (fragment.Row r ∷ fs) =
    subst (Differ now) (sym (changes_said (own (bare top now (fragment.Row r))) (bare top now (fragment.Row r)) (settled_from top now fs) refl)) (settled_differ top now fs)
settled_differ top now (fragment.Marker cut d ∷ fs) =
    elim (same_force now d) as (λ b. same_force now d ≡ b → Differ now (changes (cons_option (cond b None (Some (fragment.Marker cut d))) (settled_from top d fs)))) [
      | true ↦ λ e. subst (λ w. Differ w (changes (settled_from top d fs))) (sym (same_force_is now d e)) (settled_differ top d fs)
      | false ↦ λ e. (λ same. true≢false (sym (same_force_itself d) ∙ ap (λ w. same_force w d) (sym same) ∙ e), settled_differ top d fs)
    ] refl

module _ (order : List Ordered) (top : Option Deletion) (t : Cut → Bool) (falls : Falls order t) where
  bare_stopped : (now : Option Deletion) (f : Fragment) → Stopped t f → Stopped t (bare top now f)
  bare_stopped now (fragment.Static cs) s = tt
  bare_stopped now (fragment.Row r) s = tt
  bare_stopped now (fragment.Marker cut d) s = s

  same_both : (b : Bool) (d : Option Deletion) → cond b d d ≡ d
  same_both true d = refl
  same_both false d = refl

  pub settled_after : (now : Option Deletion) (fs : List Fragment) → InOrder order fs → after t now (changes (settled_from top now fs)) ≡ after t now (changes fs)
  settled_after now [] i = refl
  settled_after now (fragment.Static cs ∷ fs) i =
      ap (after t now) (changes_said (own (bare top now (fragment.Static cs))) (bare top now (fragment.Static cs)) (settled_from top now fs) refl) ∙ settled_after now fs (later i)
  settled_after now (fragment.Row r ∷ fs) i =
      ap (after t now) (changes_said (own (bare top now (fragment.Row r))) (bare top now (fragment.Row r)) (settled_from top now fs) refl) ∙ settled_after now fs (later i)
  settled_after now (fragment.Marker cut d ∷ fs) i =
      elim (same_force now d) as (λ b. same_force now d ≡ b → after t now (changes (cons_option (cond b None (Some (fragment.Marker cut d))) (settled_from top d fs))) ≡ after t (cond (t cut) d now) (changes fs)) [
        | true ↦ λ e.
            let same : now ≡ d = same_force_is now d e in
            ap (λ w. after t w (changes (settled_from top d fs))) same ∙ settled_after d fs (later i)
            ∙ ap (λ w. after t w (changes fs)) (sym (same_both (t cut) d) ∙ ap (λ w. cond (t cut) d w) (sym same))
        | false ↦ λ e.
            elim (t cut) as (λ b. t cut ≡ b → after t (cond b d now) (changes (settled_from top d fs)) ≡ after t (cond b d now) (changes fs)) [
              | true ↦ λ p. settled_after d fs (later i)
              | false ↦ λ p.
                  let stop : AllByRecursion (Stopped t) fs = stop_behind order t falls (at_points order t) (fragment.Marker cut d) i.of.0 p fs i.of.1 i.ascend.0 in
                  stopped t now (settled_from top d fs) (settled_all (Stopped t) top d bare_stopped fs stop) ∙ sym (stopped t now fs stop)
            ] refl
      ] refl

module _ {order : List Ordered} (s : Stream) (o : IsOrdered order s.fragments) where
  pub settled_ordered : IsOrdered order (settled s).fragments
  settled_ordered =
      let i : InOrder order (settled s).fragments = settled_in_order order s.top None s.fragments (in_order o) in
      record {
        places = keys_ascend (place_cmp order) place_of (settled s).fragments i.ascend;
        of = i.of;
        closed = settled_after order s.top (λ cut. true) (always_falls order) None s.fragments (in_order o) ∙ o.closed;
      }

  pub settled_force : (r : RowKey) → in_force (settled s).fragments r ≡ in_force s.fragments r
  settled_force static_row = refl
  settled_force (clustered c) = settled_after order s.top (λ cut. is_past cut c) (past_falls order c) None s.fragments (in_order o)

-- ---- what it says

-- what is in force at each row is below D there
abbrev Over : (Coordinate → Option Deletion) → Option Deletion → List Fragment → Type 0
Over D now [] = Unit {0}
Over D now (fragment.Static cs ∷ fs) = Over D now fs
Over D now (fragment.Row r ∷ fs) = ((x : Coordinate) → same_row (clustered r.clustering.values) (row_of x) ≡ true → Below now (D x)) × Over D now fs
Over D now (fragment.Marker cut d ∷ fs) = Over D d fs

module _ (D : Coordinate → Option Deletion) (top : Option Deletion) (over_top : (x : Coordinate) → Below top (D x)) where
  settled_under : (now : Option Deletion) (fs : List Fragment) → Over D now fs → ((x : Coordinate) → Below (cover (flat_map own fs) x) (D x))
      → Under D (flat_map own (settled_from top now fs)) (flat_map own fs)
  settled_under now [] over h = record { covers = λ x. refl; lives = λ c. refl; cells = λ x. refl }
  settled_under now (fragment.Static cs ∷ fs) over h =
      let f : Fragment = fragment.Static cs in
      subst (λ l. Under D l (own f ++ flat_map own fs)) (sym (said own (bare top now f) (settled_from top now fs)))
      (under_both D (own (bare top now f)) (own f) (flat_map own (settled_from top now fs)) (flat_map own fs)
      (static_left D top over_top now cs (λ x. below_left (cover (own f) x) (cover (flat_map own fs) x) (D x) (ap (λ d. greater deletion_cmp d (D x)) (sym (cover_joins (own f) (flat_map own fs) x)) ∙ h x)))
      (settled_under now fs over (λ x. below_right (cover (own f) x) (cover (flat_map own fs) x) (D x) (ap (λ d. greater deletion_cmp d (D x)) (sym (cover_joins (own f) (flat_map own fs) x)) ∙ h x))))
  settled_under now (fragment.Row r ∷ fs) over h =
      let f : Fragment = fragment.Row r in
      subst (λ l. Under D l (own f ++ flat_map own fs)) (sym (said own (bare top now f) (settled_from top now fs)))
      (under_both D (own (bare top now f)) (own f) (flat_map own (settled_from top now fs)) (flat_map own fs)
      (row_left D top over_top now r over.0 (λ x. below_left (cover (own f) x) (cover (flat_map own fs) x) (D x) (ap (λ d. greater deletion_cmp d (D x)) (sym (cover_joins (own f) (flat_map own fs) x)) ∙ h x)))
      (settled_under now fs over.1 (λ x. below_right (cover (own f) x) (cover (flat_map own fs) x) (D x) (ap (λ d. greater deletion_cmp d (D x)) (sym (cover_joins (own f) (flat_map own fs) x)) ∙ h x))))
  settled_under now (fragment.Marker cut d ∷ fs) over h =
      subst (λ l. Under D l (flat_map own fs)) (sym (marked (same_force now d) (settled_from top d fs))) (settled_under d fs over h)
    where
      marked : (b : Bool) (rest : List Fragment) → flat_map own (cons_option (cond b None (Some (fragment.Marker cut d))) rest) ≡ flat_map own rest
      marked true rest = refl
      marked false rest = refl

pub stopped_by_row : (order : List Ordered) (c : List (List ℕ)) (fs : List Fragment) → AllByRecursion (IsOf order) fs → Behind order (Some (row_point c)) fs → AllByRecursion (Stopped (λ k. is_past k c)) fs
stopped_by_row order c [] of b = tt
stopped_by_row order c (fragment.Static cs ∷ fs) of b = (tt, stopped_by_row order c fs of.1 b.1)
stopped_by_row order c (fragment.Row r ∷ fs) of b = (tt, stopped_by_row order c fs of.1 b.1)
stopped_by_row order c (fragment.Marker k d ∷ fs) of b = (
  point_laws.past k c ∙ ap (λ o. is_lt (point_cmp o (cut_point k) (row_point c))) of.0 ∙ ap is_lt ((point_laws.orders order).total.antisymm (cut_point k) (row_point c) ∙ ap ordering_reverse b.0),
  stopped_by_row order c fs of.1 b.1,
)

pub past_cut : (order : List Ordered) (k : Cut) (fs : List Fragment) (r : Row) → k.order ≡ order → Behind order (Some (cut_point k)) fs → Has fs (fragment.Row r) → is_past k r.clustering.values ≡ true
past_cut order k [] r of b none = absurd none
past_cut order k (f ∷ fs) r of b (inl e) =
    let c : List (List ℕ) = r.clustering.values in
    point_laws.past k c ∙ ap (λ o. is_lt (point_cmp o (cut_point k) (row_point c))) of ∙ ap is_lt (subst (λ g. place_cmp order (Some (cut_point k)) (place_of g) ≡ Less) e b.0)
past_cut order k (f ∷ fs) r of b (inr has) = past_cut order k fs r of b.1 has

-- in a stream in order, what is in force where a row comes is what is in force at the row
module _ (order : List Ordered) (D : Coordinate → Option Deletion) where
  over_rows : (now : Option Deletion) (fs : List Fragment) → InOrder order fs
      → ((r : Row) → Has fs (fragment.Row r) → (x : Coordinate) → same_row (clustered r.clustering.values) (row_of x) ≡ true → Below (reaching now (changes fs) r.clustering.values) (D x)) → Over D now fs
  over_rows now [] i h = tt
  over_rows now (fragment.Static cs ∷ fs) i h = over_rows now fs (later i) (λ r has. h r (inr has))
  over_rows now (fragment.Row r ∷ fs) i h =
      (λ x e. subst (λ d. Below d (D x)) (stopped (λ k. is_past k r.clustering.values) now fs (stopped_by_row order r.clustering.values fs i.of.1 i.ascend.0)) (h r (inl refl) x e), over_rows now fs (later i) (λ s has. h s (inr has)))
  over_rows now (fragment.Marker cut d ∷ fs) i h =
      over_rows d fs (later i) (λ r has x e. subst (λ b. Below (after (λ k. is_past k r.clustering.values) (cond b d now) (changes fs)) (D x)) (past_cut order cut fs r i.of.0 i.ascend.0 has) (h r (inr has) x e))

-- ---- the whole

module _ {order : List Ordered} (s : Stream) (o : IsOrdered order s.fragments) where
  all_covers : Coordinate → Option Deletion
  all_covers x = cover (flat_of s) x

  below_all : (x : Coordinate) → Below (greater deletion_cmp s.top (greater deletion_cmp (in_force s.fragments (row_of x)) (cover (flat_map own s.fragments) x))) (all_covers x)
  unfolding all_covers
  below_all x = ap (λ d. greater deletion_cmp d (cover (flat_of s) x)) (sym (stream_covers s.top o x)) ∙ greater_self deletion_laws.orders (cover (flat_of s) x)

  others_below : (x : Coordinate) → Below (greater deletion_cmp (in_force s.fragments (row_of x)) (cover (flat_map own s.fragments) x)) (all_covers x)
  others_below x = below_right s.top (greater deletion_cmp (in_force s.fragments (row_of x)) (cover (flat_map own s.fragments) x)) (all_covers x) (below_all x)

  own_under : Under all_covers (flat_map own (settled s).fragments) (flat_map own s.fragments)
  own_under =
      settled_under all_covers s.top (λ x. below_left s.top (greater deletion_cmp (in_force s.fragments (row_of x)) (cover (flat_map own s.fragments) x)) (all_covers x) (below_all x)) None s.fragments
      (over_rows order all_covers None s.fragments (in_order o) (λ r has x e.
      subst (λ k. Below (in_force s.fragments k) (all_covers x)) (sym (equal_rows (clustered r.clustering.values) (row_of x) e))
      (below_left (in_force s.fragments (row_of x)) (cover (flat_map own s.fragments) x) (all_covers x) (others_below x))))
      (λ x. below_right (in_force s.fragments (row_of x)) (cover (flat_map own s.fragments) x) (all_covers x) (others_below x))

  settled_covers : (x : Coordinate) → cover (flat_of (settled s)) x ≡ cover (flat_of s) x
  settled_covers x =
      stream_covers s.top (settled_ordered s o) x
      ∙ (λ i. greater deletion_cmp s.top (greater deletion_cmp (settled_force s o (row_of x) i) (own_under.covers x i)))
      ∙ sym (stream_covers s.top o x)

  pub settled_same : Same (flat_of (settled s)) (flat_of s)
  unfolding all_covers
  settled_same = record {
    covers = settled_covers;
    lives = λ c.
        winner_is live_laws.orders live_laws.by_time (live_at_row c) (row c) (flat_of (settled s))
        ∙ (λ i. standing live_at (settled_covers (row c) i) (stream_gives live_laws.orders (live_at_row c) (λ d. refl) (λ lo hi d. refl) s.top (settled s).fragments i))
        ∙ own_under.lives c
        ∙ ap (standing live_at (cover (flat_of s) (row c))) (sym (stream_gives live_laws.orders (live_at_row c) (λ d. refl) (λ lo hi d. refl) s.top s.fragments))
        ∙ sym (winner_is live_laws.orders live_laws.by_time (live_at_row c) (row c) (flat_of s));
    cells = λ x.
        winner_is cell_laws.orders cell_laws.by_time (cell_at_path x) x (flat_of (settled s))
        ∙ (λ i. standing cell_at (settled_covers x i) (stream_gives cell_laws.orders (cell_at_path x) (λ d. refl) (λ lo hi d. refl) s.top (settled s).fragments i))
        ∙ own_under.cells x
        ∙ ap (standing cell_at (cover (flat_of s) x)) (sym (stream_gives cell_laws.orders (cell_at_path x) (λ d. refl) (λ lo hi d. refl) s.top s.fragments))
        ∙ sym (winner_is cell_laws.orders cell_laws.by_time (cell_at_path x) x (flat_of s));
  }
