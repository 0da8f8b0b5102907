-- What covers a coordinate, what wins there, and when two lists of atoms are the same.
-- CQL documentation, "Data manipulation: INSERT / UPDATE / DELETE, USING TIMESTAMP"; Cassandra documentation, "Operating: Compaction,
-- tombstones". A list of atoms has no order: its greatest decide.
use Rattle.std.specs.Prelude.{◌≡◌, ℕ, ℤ, Option, None, Some, List, if◌then◌else◌}
use Rattle.cas_cell.specs.Deletions.{deletion_cmp, covered}
use Rattle.cas_cell.specs.Lives.{live_at, live_cmp}
use Rattle.cas_cell.specs.Cells.{cell_at, cell_cmp}
use Rattle.cas_cell.specs.declared.deletion.Deletion.{Deletion}
use Rattle.cas_cell.specs.declared.liveness.Liveness.{Liveness}
use Rattle.cas_cell.specs.declared.cell.Cell.{Cell}
use Rattle.cas_atoms.specs.Greatest.{greatest}
use Rattle.cas_atoms.specs.Coordinates.{Coordinate, row, deletion_at, live_at_row, cell_at_path}
use Rattle.cas_atoms.specs.declared.atom.Atom.{Atom}

-- the greatest deletion that has the coordinate in its scope, or none
abbrev pub cover : List Atom → Coordinate → Option Deletion
cover atoms x = greatest deletion_cmp (deletion_at x) atoms

-- a write, where the deletion doesn't cover its timestamp
abbrev pub standing : {Y : Type 0} → (Y → ℤ) → Option Deletion → Option Y → Option Y
standing at None w = w
standing at (Some d) None = None
standing at (Some d) (Some y) = if covered d (at y) then None else Some y

-- what tells that a row lives: the greatest liveness at it that isn't covered, or none
abbrev pub live_winner : List Atom → List (List ℕ) → Option Liveness
live_winner atoms r = greatest live_cmp (λ a. standing live_at (cover atoms (row r)) (live_at_row r a)) atoms

-- the cell that counts at a coordinate: the greatest there that isn't covered, or none
abbrev pub cell_winner : List Atom → Coordinate → Option Cell
cell_winner atoms x = greatest cell_cmp (λ a. standing cell_at (cover atoms x) (cell_at_path x a)) atoms

-- two lists are the same where what covers and what wins agree at every coordinate
pub record Same (A B : List Atom) : Type 0 where
  pub covers : (x : Coordinate) → cover A x ≡ cover B x
  pub lives : (r : List (List ℕ)) → live_winner A r ≡ live_winner B r
  pub cells : (x : Coordinate) → cell_winner A x ≡ cell_winner B x
