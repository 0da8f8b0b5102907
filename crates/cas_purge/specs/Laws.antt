-- What a purge leaves (own).
use Rattle.std.specs.Prelude.{◌≡◌, ℕ, ℤ, ◌≤ℤ◌, true, Some, List, ◌++◌, filter}
use Rattle.std.specs.List.{AllByRecursion}
use Rattle.cas_types.specs.declared.schema.Column.{Column}
use Rattle.cas_cell.specs.declared.liveness.Liveness.{Liveness}
use Rattle.cas_cell.specs.declared.cell.Cell.{Cell}
use Rattle.cas_atoms.specs.Coordinates.{Coordinate, atom_at, live_at_row, cell_at_path}
use Rattle.cas_atoms.specs.Winners.{live_winner, cell_winner}
use Rattle.cas_atoms.specs.Answers.{answer}
use Rattle.cas_atoms.specs.declared.atom.Atom.{Atom}
use Rattle.cas_atoms.specs.declared.query.Query.{Query}
use Rattle.cas_laws.specs.Given.{Gives}
use Rattle.cas_laws.specs.Above.{SameAbove}
use Rattle.cas_streams.specs.Streams.{WellFormed}
use Rattle.cas_streams.specs.Joined.{Stream}
use Rattle.cas_streams.specs.Merged.{flat_of, IsMerged}
use Rattle.cas_purge.specs.Droppable.{droppable, stays}
use Rattle.cas_purge.specs.Purged.{purged}

-- a purge drops exactly the droppable atoms: all others are there as they were, and no other is
abbrev pub PurgeDropsDroppable : Type 0
PurgeDropsDroppable = (before limit : ℤ) (s : Stream) → flat_of (purged before limit s) ≡ filter (stays before limit) (flat_of s)

-- of a table's well-formed stream it leaves a well-formed one: no row of which nothing is said, no marker where nothing changes
abbrev pub PurgeIsWellFormed : Type 0
PurgeIsWellFormed = (before limit : ℤ) (columns : List Column) (s : Stream) → WellFormed columns s.fragments
    → WellFormed columns (purged before limit s).fragments

-- and of a merged stream a merged one
abbrev pub PurgeIsMerged : Type 0
PurgeIsMerged = (before limit : ℤ) (columns : List Column) (s : Stream) → IsMerged columns s → IsMerged columns (purged before limit s)

-- ---- on atoms

-- each write of a list wins where it is written, as in a merged stream: nothing older than a tombstone or an expired write stands beside it
pub record AllWin (A : List Atom) : Type 0 where
  pub lives : (r : List (List ℕ)) (l : Liveness) → Gives (live_at_row r) A l → live_winner A r ≡ Some l
  pub cells : (x : Coordinate) (v : Cell) → Gives (cell_at_path x) A v → cell_winner A x ≡ Some v

-- the atoms of a merged stream are such a list
abbrev pub MergedAllWin : Type 0
MergedAllWin = (columns : List Column) (s : Stream) → IsMerged columns s → AllWin (flat_of s)

-- what is left of such a list is the same above a mark that no droppable atom passes, and from the second on before which these were dead
abbrev pub PurgeIsSameAbove : Type 0
PurgeIsSameAbove = (before limit mark floor : ℤ) (A : List Atom) → AllWin A → before ≤ℤ floor
    → AllByRecursion (λ a. droppable before limit a ≡ true → atom_at a ≤ℤ mark) A → SameAbove (Some mark) floor A (filter (stays before limit) A)

-- what was deleted stays deleted: where no atom elsewhere is earlier than the limit, a purge changes no answer at that second or later
abbrev pub PurgeKeepsAnswers : Type 0
PurgeKeepsAnswers = (before limit : ℤ) (A elsewhere : List Atom) → AllWin A → AllByRecursion (λ a. limit ≤ℤ atom_at a) elsewhere
    → (q : Query) (now : ℤ) → before ≤ℤ now → answer q (filter (stays before limit) A ++ elsewhere) now ≡ answer q (A ++ elsewhere) now
