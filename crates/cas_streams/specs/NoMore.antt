-- That a list of atoms says no more than another, nowhere: so nothing in it is invented.
-- CQL documentation, "Data manipulation: DELETE"; the word "target" is own.
use Rattle.std.specs.Prelude.{ℕ, ◌==◌, ◌&&◌, Option, None, Some, List}
use Rattle.std.specs.Bool.{then_some}
use Rattle.cas_cell.specs.declared.cell.Cell.{Cell}
use Rattle.cas_cell.specs.declared.deletion.Deletion.{Deletion}
use Rattle.cas_cell.specs.declared.liveness.Liveness.{Liveness}
use Rattle.cas_atoms.specs.Coordinates.{Coordinate, RowKey, clustered, static_row, same_row, same_values, live_at_row, cell_at_path}
use Rattle.cas_atoms.specs.declared.atom.Atom.{Atom}
use Rattle.cas_atoms.specs.declared.atom.Atom.TheVariants.{PartitionDeletion, RangeDeletion, RowDeletion, CollectionDeletion, StaticCollectionDeletion}
use Rattle.cas_laws.specs.Given.{Gives}

-- a target: the whole partition, the rows between two cuts, the row of these values, or the column of that number of a row
pub data Target : Type 0 where
  partition : Target
  range : Target
  one_row : List (List ℕ) → Target
  one_column : RowKey → ℕ → Target

-- the deletion, where the atom is one of that target; between which cuts a range's rows stand doesn't matter
abbrev pub deletion_of : Target → Atom → Option Deletion
deletion_of partition (PartitionDeletion d) = Some d
deletion_of range (RangeDeletion lo hi d) = Some d
deletion_of (one_row r) (RowDeletion c d) = then_some (same_values c.values r) d
deletion_of (one_column r n) (CollectionDeletion c column d) = then_some (same_row (clustered c.values) r && (column.number == n)) d
deletion_of (one_column r n) (StaticCollectionDeletion column d) = then_some (same_row static_row r && (column.number == n)) d
deletion_of _ _ = None

-- each liveness and cell, of regular and static columns, and each deletion of the first list, also one that a greater one stands above, is one that the
-- second has there: at the same row, coordinate or target, of the same timestamp and second
pub record SaysNoMore (A B : List Atom) : Type 0 where
  pub lives : (r : List (List ℕ)) (l : Liveness) → Gives (live_at_row r) A l → Gives (live_at_row r) B l
  pub cells : (x : Coordinate) (v : Cell) → Gives (cell_at_path x) A v → Gives (cell_at_path x) B v
  pub deletions : (t : Target) (d : Deletion) → Gives (deletion_of t) A d → Gives (deletion_of t) B d
