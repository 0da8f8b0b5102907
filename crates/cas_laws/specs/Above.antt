-- Lists of atoms that are the same but for what a compaction may purge: up to a timestamp, the mark, and what is dead at a moment, the floor.
-- Cassandra documentation, "Operating: Compaction, tombstones; gc_grace_seconds"; the words "mark" and "floor" are own.
use Rattle.std.specs.Prelude.{◌≡◌, ℕ, ℤ, int_le, int_lt, Bool, true, ◌||◌, Option, None, Some, List, if◌then◌else◌}
use Rattle.std.specs.List.{All}
use Rattle.cas_cell.specs.Lives.{live_at, live_lives}
use Rattle.cas_cell.specs.Cells.{cell_at, cell_lives}
use Rattle.cas_cell.specs.declared.deletion.Deletion.{Deletion}
use Rattle.cas_cell.specs.declared.liveness.Liveness.{Liveness}
use Rattle.cas_cell.specs.declared.cell.Cell.{Cell}
use Rattle.cas_atoms.specs.Coordinates.{Coordinate, atom_at}
use Rattle.cas_atoms.specs.Winners.{cover, live_winner, cell_winner}
use Rattle.cas_atoms.specs.declared.atom.Atom.{Atom}

-- the timestamp is later than the mark; each is, where there is none
abbrev pub is_late : Option ℤ → ℤ → Bool
is_late None at = true
is_late (Some mark) at = int_lt mark at

-- each atom is later than the mark
abbrev pub AllAbove : Option ℤ → List Atom → Type 0
AllAbove mark atoms = All (λ a. is_late mark (atom_at a) ≡ true) atoms

-- what passes the test; anything else is read as none
abbrev pub only : {Y : Type 0} → (Y → Bool) → Option Y → Option Y
only passes None = None
only passes (Some y) = if passes y then Some y else None

-- a deletion that is later than the mark
abbrev pub unmarked : Option ℤ → Option Deletion → Option Deletion
unmarked mark d = only (λ e. is_late mark e.at) d

-- a liveness that is later than the mark, or alive at the floor
abbrev pub lasting_live : Option ℤ → ℤ → Option Liveness → Option Liveness
lasting_live mark floor l = only (λ m. is_late mark (live_at m) || live_lives floor m) l

-- a cell that is later than the mark, or alive at the floor
abbrev pub lasting_cell : Option ℤ → ℤ → Option Cell → Option Cell
lasting_cell mark floor c = only (λ d. is_late mark (cell_at d) || cell_lives floor d) c

-- two lists are the same above a mark and a floor where, read so, what covers and what wins agree at every coordinate
pub record SameAbove (mark : Option ℤ) (floor : ℤ) (A B : List Atom) : Type 0 where
  pub covers : (x : Coordinate) → unmarked mark (cover A x) ≡ unmarked mark (cover B x)
  pub lives : (r : List (List ℕ)) → lasting_live mark floor (live_winner A r) ≡ lasting_live mark floor (live_winner B r)
  pub cells : (x : Coordinate) → lasting_cell mark floor (cell_winner A x) ≡ lasting_cell mark floor (cell_winner B x)

-- the later of two
abbrev pub later : ℤ → ℤ → ℤ
later a b = if int_le a b then b else a

-- the later of two marks, where there are two
abbrev pub later_mark : Option ℤ → Option ℤ → Option ℤ
later_mark None n = n
later_mark (Some m) None = Some m
later_mark (Some m) (Some n) = Some (later m n)
