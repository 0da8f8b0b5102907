-- A fragment takes at most three times the bytes of the atoms that it says, and what it takes of a range deletion is its cut's.
use Rattle.std.proofs.Common.{◌≡◌, ℕ, ◌+◌, ◌*◌, ◌≤◌, Bool, Option, None, Some, List, [], ◌∷◌, ◌++◌, map, length, refl, arith}
use Rattle.std.proofs.lemmas.List.Sums.{sum_by-cons, sum_by-append}
use Rattle.std.specs.List.{AllByRecursion, flat_map, sum_by}
use Rattle.cas_types.specs.declared.schema.Column.{Column}
use Rattle.cas_types.specs.declared.schema.Kind.{Kind}
use Rattle.cas_cell.specs.declared.deletion.Deletion.{Deletion}
use Rattle.cas_cell.specs.declared.liveness.Liveness.{Liveness}
use Rattle.cas_cell.specs.declared.liveness.Liveness.TheVariants as live
use Rattle.cas_bounds.specs.declared.cuts.Clustering.{Clustering}
use Rattle.cas_atoms.specs.LogLength.{values_length, cut_length, live_length}
use Rattle.cas_atoms.specs.declared.atom.Atom.{Atom}
use Rattle.cas_atoms.specs.declared.atom.Atom.TheVariants.{RowDeletion, Live}
use Rattle.cas_atoms.specs.declared.atom.ColumnRef.{ColumnRef}
use Rattle.cas_atoms.specs.declared.row.PathCell.{PathCell}
use Rattle.cas_atoms.specs.declared.row.Row.{Row}
use Rattle.cas_atoms.specs.declared.row.RowColumn.{RowColumn}
use Rattle.cas_fragments.specs.Lengths.{path_cell_length, maybe_deletion_length, maybe_live_length, column_length, columns_length, fragment_length}
use Rattle.cas_streams.specs.Flat.{Change, atom_of, empties, writes, of_column, own, changes}
use Rattle.cas_streams.specs.Streams.{IsThere, IsColumn, IsFragment}
use Rattle.cas_streams.specs.declared.fragment.Fragment.{Fragment}
use Rattle.cas_streams.specs.declared.fragment.Fragment.TheVariants as fragment
use Rattle.cas_sizes.proofs.Answered.{weight}

-- how many bytes a fragment takes of a file: static columns those in their partition's head
abbrev pub size : Fragment → ℕ
size (fragment.Static cs) = columns_length cs
size (fragment.Row r) = fragment_length (fragment.Row r)
size (fragment.Marker cut d) = fragment_length (fragment.Marker cut d)

-- how many bytes a marker takes at most
abbrev pub cut_size : Change → ℕ
cut_size m = 18 + cut_length m.at

-- ---- columns

cell_small : (at : Option Clustering) (ref : ColumnRef) (c : PathCell) → path_cell_length c + 3 ≤ weight (writes at ref c)
cell_small None ref c = omega arith
cell_small (Some at) ref c = omega arith

cells_small : (at : Option Clustering) (ref : ColumnRef) (cells : List PathCell)
    → sum_by path_cell_length cells + 3 * length cells ≤ sum_by weight (map (writes at ref) cells)
cells_small at ref [] = omega arith
cells_small at ref (c ∷ cells) =
    omega (
      arith,
      sum_by-cons path_cell_length c cells,
      sum_by-cons weight (writes at ref c) (map (writes at ref) cells),
      cell_small at ref c,
      cells_small at ref cells,
    )

emptied_small : (at : Option Clustering) (ref : ColumnRef) (d : Deletion) → 19 ≤ weight (empties at ref d)
emptied_small None ref d = omega arith
emptied_small (Some at) ref d = omega arith

column_small : (at : Option Clustering) (ref : ColumnRef) (d : Option Deletion) (cells : List PathCell) → (d ≡ None → IsThere cells)
    → column_length (record { column = ref; deletion = d; cells = cells }) ≤ 2 * sum_by weight (atom_of (empties at ref) d ++ map (writes at ref) cells)
column_small at ref (Some d) cells said =
    omega (arith, sum_by-cons weight (empties at ref d) (map (writes at ref) cells), emptied_small at ref d, cells_small at ref cells)
column_small at ref None [] said = absurd (said refl)
column_small at ref None (c ∷ cells) said = omega (arith, cells_small at ref (c ∷ cells), sum_by-cons path_cell_length c cells)

columns_small : (is_of : Kind → Bool) (columns : List Column) (at : Option Clustering) (cs : List RowColumn) → AllByRecursion (IsColumn is_of columns) cs
    → sum_by column_length cs ≤ 2 * sum_by weight (flat_map (of_column at) cs)
columns_small is_of columns at [] of = omega arith
columns_small is_of columns at (c ∷ cs) of =
    omega (
      arith,
      sum_by-cons column_length c cs,
      sum_by-append weight (of_column at c) (flat_map (of_column at) cs),
      column_small at c.column c.deletion c.cells of.0.said,
      columns_small is_of columns at cs of.1,
    )

-- ---- something said of a row takes its place with it

abbrev least : Option Clustering → ℕ
least None = 3
least (Some c) = values_length c.values + 5

emptied_heavy : (at : Option Clustering) (ref : ColumnRef) (d : Deletion) → least at ≤ weight (empties at ref d)
emptied_heavy None ref d = omega arith
emptied_heavy (Some at) ref d = omega arith

written_heavy : (at : Option Clustering) (ref : ColumnRef) (c : PathCell) → least at ≤ weight (writes at ref c)
written_heavy None ref c = omega arith
written_heavy (Some at) ref c = omega arith

column_heavy : (at : Option Clustering) (ref : ColumnRef) (d : Option Deletion) (cells : List PathCell) → (d ≡ None → IsThere cells)
    → least at ≤ sum_by weight (atom_of (empties at ref) d ++ map (writes at ref) cells)
column_heavy at ref (Some d) cells said = omega (arith, sum_by-cons weight (empties at ref d) (map (writes at ref) cells), emptied_heavy at ref d)
column_heavy at ref None [] said = absurd (said refl)
column_heavy at ref None (c ∷ cells) said = omega (arith, sum_by-cons weight (writes at ref c) (map (writes at ref) cells), written_heavy at ref c)

columns_heavy : (is_of : Kind → Bool) (columns : List Column) (at : Option Clustering) (cs : List RowColumn) → AllByRecursion (IsColumn is_of columns) cs
    → IsThere (flat_map (of_column at) cs) → least at ≤ sum_by weight (flat_map (of_column at) cs)
columns_heavy is_of columns at [] of there = absurd there
columns_heavy is_of columns at (c ∷ cs) of there =
    omega (arith, sum_by-append weight (of_column at c) (flat_map (of_column at) cs), column_heavy at c.column c.deletion c.cells of.0.said)

live_heavy : (l : Liveness) → 9 ≤ live_length l
live_heavy (live.Plain at) = omega arith
live_heavy (live.Expiring at expiry ttl) = omega arith

deletion_small : (c : Clustering) (d : Option Deletion) → maybe_deletion_length d ≤ 1 + sum_by weight (atom_of (RowDeletion c) d)
deletion_small c None = omega arith
deletion_small c (Some d) = omega (arith, sum_by-cons weight (RowDeletion c d) [])

live_small : (c : Clustering) (l : Option Liveness) → maybe_live_length l ≤ 1 + sum_by weight (atom_of (Live c) l)
live_small c None = omega arith
live_small c (Some l) = omega (arith, sum_by-cons weight (Live c l) [])

row_heavy : (is_of : Kind → Bool) (columns : List Column) (c : Clustering) (d : Option Deletion) (l : Option Liveness) (cs : List RowColumn)
    → AllByRecursion (IsColumn is_of columns) cs → IsThere (atom_of (RowDeletion c) d ++ (atom_of (Live c) l ++ flat_map (of_column (Some c)) cs))
    → values_length c.values + 5
    ≤ sum_by weight (atom_of (RowDeletion c) d) + (sum_by weight (atom_of (Live c) l) + sum_by weight (flat_map (of_column (Some c)) cs))
row_heavy is_of columns c (Some d) l cs of there = omega (arith, sum_by-cons weight (RowDeletion c d) [])
row_heavy is_of columns c None (Some l) cs of there = omega (arith, sum_by-cons weight (Live c l) [], live_heavy l)
row_heavy is_of columns c None None cs of there = omega (arith, columns_heavy is_of columns (Some c) cs of there)

row_parts : (r : Row) → sum_by weight (own (fragment.Row r))
    ≡ sum_by weight (atom_of (RowDeletion r.clustering) r.deletion)
    + (sum_by weight (atom_of (Live r.clustering) r.live) + sum_by weight (flat_map (of_column (Some r.clustering)) r.columns))
row_parts r =
    let deletes : List Atom = atom_of (RowDeletion r.clustering) r.deletion in
    let lives : List Atom = atom_of (Live r.clustering) r.live in
    let rest : List Atom = flat_map (of_column (Some r.clustering)) r.columns in
    omega (arith, sum_by-append weight deletes (lives ++ rest), sum_by-append weight lives rest)

-- ---- fragments

row_small : (columns : List Column) (r : Row) → IsFragment columns (fragment.Row r) → size (fragment.Row r) ≤ 3 * sum_by weight (own (fragment.Row r))
row_small columns r of =
    omega (
      arith,
      row_parts r,
      deletion_small r.clustering r.deletion,
      live_small r.clustering r.live,
      columns_small _ columns (Some r.clustering) r.columns of.0.each,
      row_heavy _ columns r.clustering r.deletion r.live r.columns of.0.each of.1,
    )

marker_small : (m : Change) → fragment_length (fragment.Marker m.at m.to) ≤ cut_size m
marker_small m = by m.to
  where
    by : (d : Option Deletion) → fragment_length (fragment.Marker m.at d) ≤ cut_size m
    by None = omega arith
    by (Some d) = omega arith

pub fragments_small : (columns : List Column) (fs : List Fragment) → AllByRecursion (IsFragment columns) fs
    → sum_by size fs ≤ 3 * sum_by weight (flat_map own fs) + sum_by cut_size (changes fs)
fragments_small columns [] of = omega arith
fragments_small columns (fragment.Static cs ∷ fs) of =
    omega (
      arith,
      sum_by-cons size (fragment.Static cs) fs,
      sum_by-append weight (own (fragment.Static cs)) (flat_map own fs),
      columns_small _ columns None cs of.0.0.each,
      columns_heavy _ columns None cs of.0.0.each of.0.1,
      fragments_small columns fs of.1,
    )
fragments_small columns (fragment.Row r ∷ fs) of =
    omega (
      arith,
      sum_by-cons size (fragment.Row r) fs,
      sum_by-append weight (own (fragment.Row r)) (flat_map own fs),
      row_small columns r of.0,
      fragments_small columns fs of.1,
    )
fragments_small columns (fragment.Marker cut d ∷ fs) of =
    let m : Change = record { at = cut; to = d } in
    omega (
      arith,
      sum_by-cons size (fragment.Marker cut d) fs,
      sum_by-cons cut_size m (changes fs),
      marker_small m,
      fragments_small columns fs of.1,
    )
