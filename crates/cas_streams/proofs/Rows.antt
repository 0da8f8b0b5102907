-- Streams row by row.
use Rattle.std.proofs.Common.{◌≡◌, ℕ, ℤ, Bool, false, Option, None, Some, List, ◌++◌, filter, refl, sym, ap, ◌∙◌}
use Rattle.std.specs.List.{flat_map}
use Rattle.std.specs.declared.cmp.Ordering.{Ordering}
use Rattle.cas_types.specs.Orders.{Orders}
use Rattle.cas_cell.specs.Deletions.{deletion_cmp}
use Rattle.cas_cell.specs.Laws.{ByTime}
use Rattle.cas_cell.specs.declared.deletion.Deletion.{Deletion}
use Rattle.cas_cell.proofs.OrderLaws.{deletion_laws, live_laws, cell_laws}
use Rattle.cas_bounds.specs.declared.cuts.Cut.{Cut}
use Rattle.cas_bounds.specs.declared.order.Ordered.{Ordered}
use Rattle.cas_atoms.specs.Greatest.{greater, greatest}
use Rattle.cas_atoms.specs.Coordinates.{Coordinate, RowKey, row, clustered, static_row, row_of, same_row, deletion_at, live_at_row, cell_at_path}
use Rattle.cas_atoms.specs.Winners.{cover, standing, live_winner, cell_winner}
use Rattle.cas_atoms.specs.declared.atom.Atom.{Atom}
use Rattle.cas_atoms.specs.declared.atom.Atom.TheVariants.{PartitionDeletion, RangeDeletion}
use Rattle.cas_atoms.proofs.GreatestLemmas.{greatest-append}
use Rattle.cas_laws.specs.Inside.{SameWhere}
use Rattle.cas_laws.proofs.JoinProofs.{cover_joins, winner_is, same_where_joins}
use Rattle.cas_laws.proofs.ShownProofs.{equal_rows}
use Rattle.cas_streams.specs.Places.{row_in}
use Rattle.cas_streams.specs.Flat.{atom_of, changes, ranges, own, in_force, flat}
use Rattle.cas_streams.specs.Streams.{IsOrdered}
use Rattle.cas_streams.specs.Laws.{is_row, row_says, RowsSayAll, SameByRows}
use Rattle.cas_streams.specs.declared.fragment.Fragment.{Fragment}
use Rattle.cas_streams.proofs.InOrder.{changes_rise}
use Rattle.cas_streams.proofs.Ranges.{ranges_cover, ranges_not_static, ranges_give}
use Rattle.cas_streams.proofs.OwnRows.{Only, given_in_row}

pub over_all_covers : (d : Option Deletion) (x : Coordinate) → cover (atom_of PartitionDeletion d) x ≡ d
over_all_covers None x = refl
over_all_covers (Some d) x = refl

over_all_gives : {Y : Type 0} (cmp : Y → Y → Ordering) (given : Atom → Option Y) → ((d : Deletion) → given (PartitionDeletion d) ≡ None) → (d : Option Deletion)
    → greatest cmp given (atom_of PartitionDeletion d) ≡ None
over_all_gives cmp given silent None = refl
over_all_gives cmp given silent (Some d) = ap (λ g. greater cmp g None) (silent d)

module _ {order : List Ordered} {fs : List Fragment} (ordered : IsOrdered order fs) where
  pub force_covers : (x : Coordinate) (r : RowKey) → row_of x ≡ r → cover (ranges (changes fs)) x ≡ in_force fs r
  force_covers x static_row at = ranges_not_static (changes fs) x at
  force_covers x (clustered c) at = ranges_cover order (changes fs) x c at (changes_rise order fs ordered.places ordered.of) ordered.closed

-- what a stream covers, by its top, what is in force and its fragments
pub stream_covers : {order : List Ordered} (top : Option Deletion) {fs : List Fragment} → IsOrdered order fs → (x : Coordinate)
    → cover (flat top fs) x ≡ greater deletion_cmp top (greater deletion_cmp (in_force fs (row_of x)) (cover (flat_map own fs) x))
stream_covers top {fs = fs} ordered x =
    cover_joins (atom_of PartitionDeletion top) (ranges (changes fs) ++ flat_map own fs) x
    ∙ (λ i. greater deletion_cmp (over_all_covers top x i)
    ((cover_joins (ranges (changes fs)) (flat_map own fs) x ∙ ap (λ d. greater deletion_cmp d (cover (flat_map own fs) x)) (force_covers ordered x (row_of x) refl)) i))

-- what it writes, its fragments write
pub stream_gives : {Y : Type 0} {cmp : Y → Y → Ordering} (o : Orders cmp) (given : Atom → Option Y) → ((d : Deletion) → given (PartitionDeletion d) ≡ None)
    → ((lo hi : Cut) (d : Deletion) → given (RangeDeletion lo hi d) ≡ None) → (top : Option Deletion) (fs : List Fragment) → greatest cmp given (flat top fs) ≡ greatest cmp given (flat_map own fs)
stream_gives {cmp = cmp} o given partition range top fs =
    greatest-append o given (atom_of PartitionDeletion top) (ranges (changes fs) ++ flat_map own fs)
    ∙ (λ i. greater cmp (over_all_gives cmp given partition top i) (greatest-append o given (ranges (changes fs)) (flat_map own fs) i))
    ∙ ap (λ g. greater cmp g (greatest cmp given (flat_map own fs))) (ranges_give cmp given range (changes fs))

-- ---- a row of a stream

module _ {order : List Ordered} (top : Option Deletion) {fs : List Fragment} (ordered : IsOrdered order fs) where
  -- what the fragments say of the row
  in_row : RowKey → List Atom
  in_row r = flat_map own (filter (λ f. is_row r (row_in f)) fs)

  pub covers_in_row : (x : Coordinate) → cover (flat top fs) x ≡ cover (row_says top fs (row_of x)) x
  unfolding in_row
  covers_in_row x =
      let r : RowKey = row_of x in
      cover_joins (atom_of PartitionDeletion top) (ranges (changes fs) ++ flat_map own fs) x
      ∙ ap (greater deletion_cmp (cover (atom_of PartitionDeletion top) x))
      (cover_joins (ranges (changes fs)) (flat_map own fs) x
      ∙ (λ i. greater deletion_cmp ((force_covers ordered x r refl ∙ sym (over_all_covers (in_force fs r) x)) i) (given_in_row deletion_laws.orders (deletion_at x) r (λ s a only e. only.deletes x e) fs i))
      ∙ sym (cover_joins (atom_of PartitionDeletion (in_force fs r)) (in_row r) x))
      ∙ sym (cover_joins (atom_of PartitionDeletion top) (atom_of PartitionDeletion (in_force fs r) ++ in_row r) x)

  module _ {Y : Type 0} {cmp : Y → Y → Ordering} {at : Y → ℤ} (o : Orders cmp) (t : ByTime cmp at) (given : Atom → Option Y) (x : Coordinate)
      (partition : (d : Deletion) → given (PartitionDeletion d) ≡ None) (range : (lo hi : Cut) (d : Deletion) → given (RangeDeletion lo hi d) ≡ None)
      (silent : (s : RowKey) (a : Atom) → Only s a → same_row s (row_of x) ≡ false → given a ≡ None) where
    of_all : (A B C : List Atom) → greatest cmp given A ≡ None → greatest cmp given B ≡ None → greatest cmp given (A ++ (B ++ C)) ≡ greatest cmp given C
    of_all A B C a b =
        greatest-append o given A (B ++ C) ∙ (λ i. greater cmp (a i) (greatest-append o given B C i)) ∙ ap (λ g. greater cmp g (greatest cmp given C)) b

    pub wins_in_row : greatest cmp (λ a. standing at (cover (flat top fs) x) (given a)) (flat top fs)
        ≡ greatest cmp (λ a. standing at (cover (row_says top fs (row_of x)) x) (given a)) (row_says top fs (row_of x))
    unfolding in_row
    wins_in_row =
        let r : RowKey = row_of x in
        winner_is o t given x (flat top fs)
        ∙ (λ i. standing at (covers_in_row x i)
        ((of_all (atom_of PartitionDeletion top) (ranges (changes fs)) (flat_map own fs) (over_all_gives cmp given partition top) (ranges_give cmp given range (changes fs))
        ∙ given_in_row o given r silent fs
        ∙ sym (of_all (atom_of PartitionDeletion top) (atom_of PartitionDeletion (in_force fs r)) (in_row r) (over_all_gives cmp given partition top) (over_all_gives cmp given partition (in_force fs r)))) i))
        ∙ sym (winner_is o t given x (row_says top fs r))

pub rows_say_all : RowsSayAll
rows_say_all order top fs ordered r = record {
  covers = λ x e. covers_in_row top ordered x ∙ ap (λ s. cover (row_says top fs s) x) (sym (equal_rows r (row_of x) e));
  lives = λ c e.
      wins_in_row top ordered live_laws.orders live_laws.by_time (live_at_row c) (row c) (λ d. refl) (λ lo hi d. refl) (λ s a only f. only.lives c f)
      ∙ ap (λ s. live_winner (row_says top fs s) c) (sym (equal_rows r (clustered c) e));
  cells = λ x e.
      wins_in_row top ordered cell_laws.orders cell_laws.by_time (cell_at_path x) x (λ d. refl) (λ lo hi d. refl) (λ s a only f. only.cells x f)
      ∙ ap (λ s. cell_winner (row_says top fs s) x) (sym (equal_rows r (row_of x) e));
}

-- ---- two streams

same_itself : (inside : RowKey → Bool) (A : List Atom) → SameWhere inside A A
same_itself inside A = record { covers = λ x e. refl; lives = λ c e. refl; cells = λ x e. refl }

stands_none : {Y : Type 0} (at : Y → ℤ) (d : Option Deletion) → standing at d None ≡ None
stands_none at None = refl
stands_none at (Some d) = refl

-- nothing is written by range deletions
no_winner : {Y : Type 0} {cmp : Y → Y → Ordering} {at : Y → ℤ} (o : Orders cmp) (t : ByTime cmp at) (given : Atom → Option Y) (x : Coordinate)
    → ((lo hi : Cut) (d : Deletion) → given (RangeDeletion lo hi d) ≡ None) → (fs : List Fragment)
    → greatest cmp (λ a. standing at (cover (ranges (changes fs)) x) (given a)) (ranges (changes fs)) ≡ None
no_winner {cmp = cmp} {at = at} o t given x silent fs =
    winner_is o t given x (ranges (changes fs)) ∙ ap (standing at (cover (ranges (changes fs)) x)) (ranges_give cmp given silent (changes fs)) ∙ stands_none at (cover (ranges (changes fs)) x)

pub same_by_rows : SameByRows
same_by_rows order other top fs gs f g inside force said =
    same_where_joins inside (atom_of PartitionDeletion top) (atom_of PartitionDeletion top) (ranges (changes fs) ++ flat_map own fs) (ranges (changes gs) ++ flat_map own gs)
    (same_itself inside (atom_of PartitionDeletion top))
    (same_where_joins inside (ranges (changes fs)) (ranges (changes gs)) (flat_map own fs) (flat_map own gs)
    (record {
      covers = λ x e. force_covers f x (row_of x) refl ∙ force (row_of x) e ∙ sym (force_covers g x (row_of x) refl);
      lives = λ c e. no_live c fs ∙ sym (no_live c gs);
      cells = λ x e. no_cell x fs ∙ sym (no_cell x gs);
    }) said)
  where
    no_live : (c : List (List ℕ)) (hs : List Fragment) → live_winner (ranges (changes hs)) c ≡ None
    no_live c hs = no_winner live_laws.orders live_laws.by_time (live_at_row c) (row c) (λ lo hi d. refl) hs

    no_cell : (x : Coordinate) (hs : List Fragment) → cell_winner (ranges (changes hs)) x ≡ None
    no_cell x hs = no_winner cell_laws.orders cell_laws.by_time (cell_at_path x) x (λ lo hi d. refl) hs
