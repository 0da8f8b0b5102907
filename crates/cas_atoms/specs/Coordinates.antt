-- The places that a statement writes to, and which of them an atom writes or deletes.
-- CQL documentation, "Data definition: the primary key; static columns" and "Data manipulation: INSERT / UPDATE / DELETE"; the words
-- "coordinate" and "scope" are own.
use Rattle.std.specs.Prelude.{ℕ, ℤ, ◌==◌, Bool, true, false, ◌&&◌, Option, None, Some, List}
use Rattle.std.specs.Bool.{then_some}
use Rattle.std.specs.Ordering.{eq_by_cmp}
use Rattle.std.specs.Cmp.Lexicographic.{slice_cmp}
use Rattle.cas_types.specs.Values.{bytes_cmp}
use Rattle.cas_cell.specs.Cells.{cell_at}
use Rattle.cas_cell.specs.Lives.{live_at}
use Rattle.cas_cell.specs.declared.deletion.Deletion.{Deletion}
use Rattle.cas_cell.specs.declared.liveness.Liveness.{Liveness}
use Rattle.cas_cell.specs.declared.cell.Cell.{Cell}
use Rattle.cas_bounds.specs.Cuts.{is_inside}
use Rattle.cas_bounds.specs.declared.cuts.Cut.{Cut}
use Rattle.cas_atoms.specs.declared.atom.Atom.{Atom}
use Rattle.cas_atoms.specs.declared.atom.Atom.TheVariants.{PartitionDeletion, RangeDeletion, RowDeletion, CollectionDeletion}
use Rattle.cas_atoms.specs.declared.atom.Atom.TheVariants.{Live, Write, StaticWrite, StaticCollectionDeletion}

-- a row of a partition: one with the values of its clustering columns, or the one static row that all of them share
pub data RowKey : Type 0 where
  clustered : List (List ℕ) → RowKey
  static_row : RowKey

-- a coordinate: a row's own place, where an INSERT leaves that the row lives; or, in a row, a path of the column of that number, which for a
-- plain column is empty
pub data Coordinate : Type 0 where
  row : List (List ℕ) → Coordinate
  path : RowKey → ℕ → List ℕ → Coordinate

-- the row that a coordinate lies in
abbrev pub row_of : Coordinate → RowKey
row_of (row c) = clustered c
row_of (path r column p) = r

-- the values of one row: as many, and equal each
abbrev pub same_values : List (List ℕ) → List (List ℕ) → Bool
same_values = eq_by_cmp (slice_cmp bytes_cmp)

-- the same bytes
abbrev pub same_bytes : List ℕ → List ℕ → Bool
same_bytes = eq_by_cmp bytes_cmp

-- one row; the static row is none but itself
abbrev pub same_row : RowKey → RowKey → Bool
same_row (clustered c) (clustered d) = same_values c d
same_row static_row static_row = true
same_row _ _ = false

-- the row lies between the cuts; the static row lies between none
abbrev pub lies_between : Cut → Cut → RowKey → Bool
lies_between lo hi (clustered c) = is_inside lo hi c
lies_between lo hi static_row = false

-- the coordinate is a path of that column of that row
abbrev pub is_in_column : RowKey → ℕ → Coordinate → Bool
is_in_column r column (row c) = false
is_in_column r column (path s other p) = same_row r s && (column == other)

-- the coordinate is that path of that column of that row
abbrev pub is_at : RowKey → ℕ → List ℕ → Coordinate → Bool
is_at r column p (row c) = false
is_at r column p (path s other q) = same_row r s && ((column == other) && same_bytes p q)

-- the deletion, where the atom is one that has the coordinate in its scope: a partition's has all, a range's the rows between its cuts, a
-- row's its row, a collection's the paths of its column
abbrev pub deletion_at : Coordinate → Atom → Option Deletion
deletion_at x (PartitionDeletion d) = Some d
deletion_at x (RangeDeletion lo hi d) = then_some (lies_between lo hi (row_of x)) d
deletion_at x (RowDeletion c d) = then_some (same_row (clustered c.values) (row_of x)) d
deletion_at x (CollectionDeletion c column d) = then_some (is_in_column (clustered c.values) column.number x) d
deletion_at x (StaticCollectionDeletion column d) = then_some (is_in_column static_row column.number x) d
deletion_at x _ = None

-- what the atom, if it is an INSERT's, leaves of the row itself
abbrev pub live_at_row : List (List ℕ) → Atom → Option Liveness
live_at_row r (Live c l) = then_some (same_values c.values r) l
live_at_row r _ = None

-- the cell that the atom writes at the coordinate
abbrev pub cell_at_path : Coordinate → Atom → Option Cell
cell_at_path x (Write c column p v) = then_some (is_at (clustered c.values) column.number p x) v
cell_at_path x (StaticWrite column p v) = then_some (is_at static_row column.number p x) v
cell_at_path x _ = None

-- a row by the values of its clustering columns, of which the static row has none
abbrev pub row_key : Option (List (List ℕ)) → RowKey
row_key None = static_row
row_key (Some c) = clustered c

-- the timestamp of what an atom writes or deletes
abbrev pub atom_at : Atom → ℤ
atom_at (PartitionDeletion d) = d.at
atom_at (RangeDeletion lo hi d) = d.at
atom_at (RowDeletion c d) = d.at
atom_at (CollectionDeletion c column d) = d.at
atom_at (Live c l) = live_at l
atom_at (Write c column p v) = cell_at v
atom_at (StaticWrite column p v) = cell_at v
atom_at (StaticCollectionDeletion column d) = d.at
