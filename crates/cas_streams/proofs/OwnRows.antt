-- What fragments say is said of their own rows alone.
use Rattle.std.proofs.Common.{◌≡◌, ℕ, true, false, cond, ◌&&◌, ◌==◌, Option, None, Some, List, [], ◌∷◌, ◌++◌, map, filter, refl, sym, ap, ◌∙◌}
use Rattle.std.specs.Bool.{then_some}
use Rattle.std.specs.List.{AllByRecursion, flat_map}
use Rattle.std.specs.declared.cmp.Ordering.{Ordering}
use Rattle.cas_types.specs.Orders.{Orders}
use Rattle.cas_cell.specs.declared.deletion.Deletion.{Deletion}
use Rattle.cas_cell.specs.declared.liveness.Liveness.{Liveness}
use Rattle.cas_cell.specs.declared.cell.Cell.{Cell}
use Rattle.cas_bounds.specs.declared.cuts.Clustering.{Clustering}
use Rattle.cas_atoms.specs.Greatest.{greater, greatest}
use Rattle.cas_atoms.specs.Coordinates.{Coordinate, RowKey, row, path, clustered, static_row, row_of, same_row, same_bytes, is_in_column, is_at, deletion_at, live_at_row, cell_at_path}
use Rattle.cas_atoms.specs.declared.atom.ColumnRef.{ColumnRef}
use Rattle.cas_atoms.specs.declared.atom.Atom.{Atom}
use Rattle.cas_atoms.specs.declared.atom.Atom.TheVariants.{RowDeletion, Live}
use Rattle.cas_atoms.specs.declared.row.RowColumn.{RowColumn}
use Rattle.cas_atoms.specs.declared.row.PathCell.{PathCell}
use Rattle.cas_atoms.proofs.GreatestLemmas.{greatest-append}
use Rattle.cas_streams.specs.Places.{row_in}
use Rattle.cas_streams.specs.Flat.{atom_of, writes, empties, of_column, own}
use Rattle.cas_streams.specs.Laws.{is_row}
use Rattle.cas_streams.specs.declared.fragment.Fragment.{Fragment}
use Rattle.cas_streams.specs.declared.fragment.Fragment.TheVariants as fragment

-- the atom says nothing of any other row
pub record Only (r : RowKey) (a : Atom) : Type 0 where
  pub deletes : (x : Coordinate) → same_row r (row_of x) ≡ false → deletion_at x a ≡ None
  pub lives : (c : List (List ℕ)) → same_row r (clustered c) ≡ false → live_at_row c a ≡ None
  pub cells : (x : Coordinate) → same_row r (row_of x) ≡ false → cell_at_path x a ≡ None

-- a row's key, by its clustering
abbrev pub key_of : Option Clustering → RowKey
key_of None = static_row
key_of (Some c) = clustered c.values

not_in_column : (r : RowKey) (n : ℕ) (x : Coordinate) (d : Deletion) → same_row r (row_of x) ≡ false → then_some (is_in_column r n x) d ≡ None
not_in_column r n (row c) d e = refl
not_in_column r n (path s m p) d e = ap (λ b. then_some (b && (n == m)) d) e

empties_only : (at : Option Clustering) (column : ColumnRef) (d : Deletion) → Only (key_of at) (empties at column d)
empties_only None column d = record {
  deletes = λ x e. not_in_column static_row column.number x d e;
  lives = λ c e. refl;
  cells = λ x e. refl;
}
empties_only (Some at) column d = record {
  deletes = λ x e. not_in_column (clustered at.values) column.number x d e;
  lives = λ c e. refl;
  cells = λ x e. refl;
}

not_at : (r : RowKey) (n : ℕ) (q : List ℕ) (x : Coordinate) (v : Cell) → same_row r (row_of x) ≡ false → then_some (is_at r n q x) v ≡ None
not_at r n q (row c) v e = refl
not_at r n q (path s m p) v e = ap (λ b. then_some (b && ((n == m) && same_bytes q p)) v) e

writes_only : (at : Option Clustering) (column : ColumnRef) (c : PathCell) → Only (key_of at) (writes at column c)
writes_only None column c = record {
  deletes = λ x e. refl;
  lives = λ r e. refl;
  cells = λ x e. not_at static_row column.number c.path x c.cell e;
}
writes_only (Some at) column c = record {
  deletes = λ x e. refl;
  lives = λ r e. refl;
  cells = λ x e. not_at (clustered at.values) column.number c.path x c.cell e;
}

-- ---- lists of such atoms

abbrev AllOnly : RowKey → List Atom → Type 0
AllOnly r atoms = AllByRecursion (Only r) atoms

both_only : (r : RowKey) (A B : List Atom) → AllOnly r A → AllOnly r B → AllOnly r (A ++ B)
both_only r [] B a b = b
both_only r (x ∷ A) B a b = (a.0, both_only r A B a.1 b)

atom_only : {X : Type 0} (r : RowKey) (make : X → Atom) (x : Option X) → ((y : X) → Only r (make y)) → AllOnly r (atom_of make x)
atom_only r make None h = tt
atom_only r make (Some x) h = (h x, tt)

cells_only : (at : Option Clustering) (column : ColumnRef) (cells : List PathCell) → AllOnly (key_of at) (map (writes at column) cells)
cells_only at column [] = tt
cells_only at column (c ∷ cells) = (writes_only at column c, cells_only at column cells)

columns_only : (at : Option Clustering) (columns : List RowColumn) → AllOnly (key_of at) (flat_map (of_column at) columns)
columns_only at [] = tt
columns_only at (c ∷ columns) =
    both_only (key_of at) (of_column at c) (flat_map (of_column at) columns)
    (both_only (key_of at) (atom_of (empties at c.column) c.deletion) (map (writes at c.column) c.cells) (atom_only (key_of at) (empties at c.column) c.deletion (empties_only at c.column)) (cells_only at c.column c.cells))
    (columns_only at columns)

row_deletion_only : (c : Clustering) (d : Deletion) → Only (clustered c.values) (RowDeletion c d)
row_deletion_only c d = record { deletes = λ x e. ap (λ b. then_some b d) e; lives = λ r e. refl; cells = λ x e. refl }

live_only : (c : Clustering) (l : Liveness) → Only (clustered c.values) (Live c l)
live_only c l = record { deletes = λ x e. refl; lives = λ r e. ap (λ b. then_some b l) e; cells = λ x e. refl }

-- a fragment that isn't of the row
pub not_of_row : (f : Fragment) (s : RowKey) → is_row s (row_in f) ≡ false → (r : RowKey) × AllOnly r (own f) × (same_row r s ≡ false)
not_of_row (fragment.Static columns) s e = (static_row, columns_only None columns, e)
not_of_row (fragment.Row r) s e =
    let key : RowKey = clustered r.clustering.values in (
      key,
      both_only key (atom_of (RowDeletion r.clustering) r.deletion) (atom_of (Live r.clustering) r.live ++ flat_map (of_column (Some r.clustering)) r.columns)
          (atom_only key (RowDeletion r.clustering) r.deletion (row_deletion_only r.clustering))
          (both_only key (atom_of (Live r.clustering) r.live) (flat_map (of_column (Some r.clustering)) r.columns) (atom_only key (Live r.clustering) r.live (live_only r.clustering)) (columns_only (Some r.clustering) r.columns)),
      e,
    )
not_of_row (fragment.Marker cut d) static_row e = (clustered [], tt, refl)
not_of_row (fragment.Marker cut d) (clustered c) e = (static_row, tt, refl)

module _ {Y : Type 0} {cmp : Y → Y → Ordering} (o : Orders cmp) (given : Atom → Option Y) (s : RowKey)
    (silent : (r : RowKey) (a : Atom) → Only r a → same_row r s ≡ false → given a ≡ None) where
  pub none_given : (r : RowKey) (A : List Atom) → AllOnly r A → same_row r s ≡ false → greatest cmp given A ≡ None
  none_given r [] all e = refl
  none_given r (a ∷ A) all e = λ i. greater cmp (silent r a all.0 e i) (none_given r A all.1 e i)

  -- what is given at a row is given by the fragments of that row
  pub given_in_row : (fs : List Fragment) → greatest cmp given (flat_map own fs) ≡ greatest cmp given (flat_map own (filter (λ f. is_row s (row_in f)) fs))
  given_in_row [] = refl
  given_in_row (f ∷ fs) =
      let kept : List Fragment = filter (λ f. is_row s (row_in f)) fs in
      greatest-append o given (own f) (flat_map own fs) ∙ ap (greater cmp (greatest cmp given (own f))) (given_in_row fs)
      ∙ elim (is_row s (row_in f)) as (λ b. is_row s (row_in f) ≡ b → greater cmp (greatest cmp given (own f)) (greatest cmp given (flat_map own kept)) ≡ greatest cmp given (flat_map own (cond b (f ∷ kept) kept))) [
        | true ↦ λ e. sym (greatest-append o given (own f) (flat_map own kept))
        | false ↦ λ e. let (r, only, apart) = not_of_row f s e in ap (λ g. greater cmp g (greatest cmp given (flat_map own kept))) (none_given r (own f) only apart)
      ] refl
