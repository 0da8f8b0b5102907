-- A merge on its way, what it gives, and streams that are the same.
use Rattle.std.proofs.Common.{◌≡◌, ℕ, ℤ, Bool, true, false, cond, Option, None, Some, List, [], ◌∷◌, ◌++◌, filter, refl, sym, ap, ◌∙◌, subst}
use Rattle.std.proofs.lemmas.Bool.{true≢false}
use Rattle.std.proofs.lemmas.Cmp.{tied_itself}
use Rattle.std.proofs.lemmas.List.{append-nil}
use Rattle.std.specs.List.{AllByRecursion, flat_map}
use Rattle.std.specs.Ordering.{is_lt}
use Rattle.std.specs.declared.cmp.Ordering.{Ordering}
use Rattle.std.specs.declared.cmp.Ordering.TheVariants.{Less}
use Rattle.cas_types.specs.Orders.{Orders}
use Rattle.cas_cell.specs.Deletions.{deletion_cmp, covered}
use Rattle.cas_cell.specs.Laws.{ByTime}
use Rattle.cas_cell.specs.declared.deletion.Deletion.{Deletion}
use Rattle.cas_cell.proofs.OrderLaws.{live_laws, cell_laws}
use Rattle.cas_bounds.specs.Cuts.{is_past}
use Rattle.cas_bounds.specs.Points.{point_cmp, row_point, cut_point}
use Rattle.cas_bounds.specs.declared.cuts.Cut.{Cut}
use Rattle.cas_bounds.specs.declared.order.Ordered.{Ordered}
use Rattle.cas_bounds.proofs.CutLaws.{point_laws}
use Rattle.cas_atoms.specs.Greatest.{greatest}
use Rattle.cas_atoms.specs.Coordinates.{Coordinate, RowKey, row, path, clustered, static_row, same_row, deletion_at, live_at_row, cell_at_path}
use Rattle.cas_atoms.specs.Winners.{cover, standing, Same}
use Rattle.cas_atoms.specs.declared.atom.Atom.{Atom}
use Rattle.cas_atoms.specs.declared.atom.Atom.TheVariants.{PartitionDeletion}
use Rattle.cas_laws.specs.Given.{Gives}
use Rattle.cas_laws.specs.Inside.{SameWhere}
use Rattle.cas_laws.proofs.GreatestProofs.{no_none, Gives-greatest}
use Rattle.cas_laws.proofs.JoinProofs.{winner_is}
use Rattle.cas_laws.proofs.ShownProofs.{equal_rows}
use Rattle.cas_streams.specs.Places.{place_of, place_cmp, row_in}
use Rattle.cas_streams.specs.Flat.{atom_of, own, changes, after, at_end, in_force}
use Rattle.cas_streams.specs.Streams.{IsOf, IsOrdered}
use Rattle.cas_streams.specs.Joined.{Stream}
use Rattle.cas_streams.specs.Merged.{merged, flat_of, flats}
use Rattle.cas_streams.specs.Laws.{is_row, row_says}
use Rattle.cas_streams.specs.MergeLaws.{place_of_row, force_from, says_from, MergeByPlaces, MergeInventsNothing, SameWritesAlike}
use Rattle.cas_streams.specs.declared.fragment.Fragment.{Fragment}
use Rattle.cas_streams.specs.declared.fragment.Fragment.TheVariants as fragment
use Rattle.cas_streams.proofs.Cutting.{filter_append, filter_none, after_append, after_alike, changes_append}
use Rattle.cas_streams.proofs.Weaves.{all_so, all_of}
use Rattle.cas_streams.proofs.Forces.{places_total, stopped}
use Rattle.cas_streams.proofs.Rows.{rows_say_all}
use Rattle.cas_streams.proofs.Settling.{stopped_by_row}
use Rattle.cas_streams.proofs.Merges.{merge_is_join, merge_forces, merge_ordered}
use Rattle.cas_streams.proofs.NoMore.{merge_says_no_more}

-- ---- a row, and fragments that stand before or behind it

-- where a fragment is of the row it stands at the row's place
at_place : (r : RowKey) (f : Fragment) → is_row r (row_in f) ≡ true → place_of f ≡ place_of_row r
at_place r (fragment.Static cs) e = ap place_of_row (equal_rows static_row r e)
at_place r (fragment.Row q) e = ap place_of_row (equal_rows (clustered q.clustering.values) r e)
at_place r (fragment.Marker k d) e = absurd (true≢false (sym e))

module _ (order : List Ordered) (r : RowKey) where
  no_fragment : (f : Fragment) → (place_of f ≡ place_of_row r → ⊥) → is_row r (row_in f) ≡ false
  no_fragment f apart =
      elim (is_row r (row_in f)) as (λ b. is_row r (row_in f) ≡ b → b ≡ false) [
        | true ↦ λ e. absurd (apart (at_place r f e))
        | false ↦ λ e. refl
      ] refl

  not_below_itself : place_cmp order (place_of_row r) (place_of_row r) ≡ Less → ⊥
  not_below_itself e = true≢false (sym (ap is_lt e) ∙ ap is_lt (tied_itself (places_total order) (place_of_row r)))

  behind_is_apart : (f : Fragment) → place_cmp order (place_of_row r) (place_of f) ≡ Less → is_row r (row_in f) ≡ false
  behind_is_apart f e = no_fragment f (λ at. not_below_itself (ap (λ p. place_cmp order (place_of_row r) p) (sym at) ∙ e))

  before_is_apart : (f : Fragment) → place_cmp order (place_of f) (place_of_row r) ≡ Less → is_row r (row_in f) ≡ false
  before_is_apart f e = no_fragment f (λ at. not_below_itself (ap (λ p. place_cmp order p (place_of_row r)) (sym at) ∙ e))

-- a row behind all fragments is past all their cuts
all_past : (order : List Ordered) (c : List (List ℕ)) (fs : List Fragment) → AllByRecursion (IsOf order) fs
    → AllByRecursion (λ f. place_cmp order (place_of f) (Some (row_point c)) ≡ Less) fs → AllByRecursion (λ m. is_past m.at c ≡ true) (changes fs)
all_past order c [] of before = tt
all_past order c (fragment.Static cs ∷ fs) of before = all_past order c fs of.1 before.1
all_past order c (fragment.Row q ∷ fs) of before = all_past order c fs of.1 before.1
all_past order c (fragment.Marker k d ∷ fs) of before = (
  point_laws.past k c ∙ ap (λ o. is_lt (point_cmp o (cut_point k) (row_point c))) of.0 ∙ ap is_lt before.0,
  all_past order c fs of.1 before.1,
)

module _ (order : List Ordered) (ss : List Stream) (all : AllByRecursion (λ s. IsOrdered order s.fragments) ss) (given rest : List Fragment) (e : (merged ss).fragments ≡ given ++ rest) (r : RowKey) where
  abbrev top : Option Deletion
  top = (merged ss).top

  of_both : AllByRecursion (IsOf order) given × AllByRecursion (IsOf order) rest
  of_both = all_of (IsOf order) given rest (subst (λ fs. AllByRecursion (IsOf order) fs) e (merge_ordered order ss all).of)

  -- the merge, and so all streams, say of the row what all its fragments say
  by_all : SameWhere (same_row r) (row_says top (given ++ rest) r) (flats ss)
  by_all =
      let joins : Same (flat_of (merged ss)) (flats ss) = merge_is_join order ss all in
      let says : SameWhere (same_row r) (flat_of (merged ss)) (row_says top (given ++ rest) r)
      = subst (λ fs. SameWhere (same_row r) (flat_of (merged ss)) (row_says top fs r)) e (rows_say_all order top (merged ss).fragments (merge_ordered order ss all) r) in
      record {
        covers = λ x i. sym (says.covers x i) ∙ joins.covers x;
        lives = λ c i. sym (says.lives c i) ∙ joins.lives c;
        cells = λ x i. sym (says.cells x i) ∙ joins.cells x;
      }

  of_row : List Fragment → List Fragment
  of_row fs = filter (λ f. is_row r (row_in f)) fs

  module _ (behind : AllByRecursion (λ f. place_cmp order (place_of_row r) (place_of f) ≡ Less) rest) where
    force_passed : (s : RowKey) → AllByRecursion (λ f. place_cmp order (place_of_row s) (place_of f) ≡ Less) rest → in_force (given ++ rest) s ≡ in_force given s
    force_passed static_row b = refl
    force_passed (clustered c) b =
        let t : Cut → Bool = λ k. is_past k c in
        ap (after t None) (changes_append given rest) ∙ after_append t None (changes given) (changes rest)
        ∙ stopped t (after t None (changes given)) rest (stopped_by_row order c rest of_both.1 b)

    own_passed : of_row (given ++ rest) ≡ of_row given
    unfolding of_row
    own_passed =
        filter_append (λ f. is_row r (row_in f)) given rest
        ∙ ap (λ fs. of_row given ++ fs) (filter_none (λ f. is_row r (row_in f)) rest (all_so (λ f. place_cmp order (place_of_row r) (place_of f) ≡ Less) (λ f. is_row r (row_in f) ≡ false) (behind_is_apart order r) rest behind))
        ∙ append-nil (of_row given)

    passed : SameWhere (same_row r) (row_says top given r) (flats ss)
    unfolding of_row
    passed =
        subst (λ A. SameWhere (same_row r) A (flats ss))
        (λ i. atom_of PartitionDeletion top ++ (atom_of PartitionDeletion (force_passed r behind i) ++ flat_map own (own_passed i))) by_all

  module _ (before : AllByRecursion (λ f. place_cmp order (place_of f) (place_of_row r) ≡ Less) given) where
    force_ahead : (s : RowKey) → AllByRecursion (λ f. place_cmp order (place_of f) (place_of_row s) ≡ Less) given
        → in_force (given ++ rest) s ≡ force_from (at_end None (changes given)) rest s
    force_ahead static_row b = refl
    force_ahead (clustered c) b =
        let t : Cut → Bool = λ k. is_past k c in
        ap (after t None) (changes_append given rest) ∙ after_append t None (changes given) (changes rest)
        ∙ ap (λ d. after t d (changes rest)) (after_alike t (λ k. true) None (changes given) (all_past order c given of_both.0 b))

    own_ahead : of_row (given ++ rest) ≡ of_row rest
    unfolding of_row
    own_ahead =
        filter_append (λ f. is_row r (row_in f)) given rest
        ∙ ap (λ fs. fs ++ of_row rest) (filter_none (λ f. is_row r (row_in f)) given (all_so (λ f. place_cmp order (place_of f) (place_of_row r) ≡ Less) (λ f. is_row r (row_in f) ≡ false) (before_is_apart order r) given before))

    ahead : SameWhere (same_row r) (says_from top (at_end None (changes given)) rest r) (flats ss)
    unfolding of_row
    ahead =
        subst (λ A. SameWhere (same_row r) A (flats ss))
        (λ i. atom_of PartitionDeletion top ++ (atom_of PartitionDeletion (force_ahead r before i) ++ flat_map own (own_ahead i))) by_all

pub merge_by_places : MergeByPlaces
merge_by_places = record {
  passed = λ order ss all given rest e r behind. passed order ss all given rest e r behind;
  ahead = λ order ss all given rest e r before. ahead order ss all given rest e r before;
}

-- ---- what wins was given

module _ {Y : Type 0} {cmp : Y → Y → Ordering} {at : Y → ℤ} (o : Orders cmp) (t : ByTime cmp at) (given : Atom → Option Y) (x : Coordinate) where
  stands_is : (d : Option Deletion) (w : Option Y) (y : Y) → standing at d w ≡ Some y → w ≡ Some y
  stands_is None w y e = e
  stands_is (Some d) None y e = no_none y e
  stands_is (Some d) (Some z) y e = bare (covered d (at z)) e
    where
      bare : (b : Bool) → cond b None (Some z) ≡ Some y → Some z ≡ Some y
      bare true h = no_none y h
      bare false h = h

  winner_given : (A : List Atom) (y : Y) → greatest cmp (λ a. standing at (cover A x) (given a)) A ≡ Some y → Gives given A y
  winner_given A y e = Gives-greatest cmp given A y (stands_is (cover A x) (greatest cmp given A) y (sym (winner_is o t given x A) ∙ e))

pub merge_invents_nothing : MergeInventsNothing
merge_invents_nothing = record {
  says = λ order ss all. merge_says_no_more order ss all;
  forces = λ order ss all r d h. merge_forces order ss all r d h;
  covers = λ order ss all x d h. Gives-greatest deletion_cmp (deletion_at x) (flats ss) d (sym ((merge_is_join order ss all).covers x) ∙ h);
}

pub same_writes_alike : SameWritesAlike
same_writes_alike = record {
  lives = λ columns s A m same c l h.
      winner_given live_laws.orders live_laws.by_time (live_at_row c.values) (row c.values) A l (sym (same.lives c.values) ∙ m.lives c l h);
  cells = λ columns s A m same c column p v h.
      let x : Coordinate = path (clustered c.values) column.number p in
      winner_given cell_laws.orders cell_laws.by_time (cell_at_path x) x A v (sym (same.cells x) ∙ m.cells c column p v h);
  statics = λ columns s A m same column p v h.
      let x : Coordinate = path static_row column.number p in
      winner_given cell_laws.orders cell_laws.by_time (cell_at_path x) x A v (sym (same.cells x) ∙ m.statics column p v h);
}
