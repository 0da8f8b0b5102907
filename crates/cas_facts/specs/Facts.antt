-- What is told of the atoms of a table file: their timestamps, and when the last of them died, if all of them do.
-- Cassandra documentation, "Storage engine: SSTables" (Statistics.db) and "Operating: Compaction, tombstones"; own.
use Rattle.std.specs.Prelude.{◌≡◌, ℤ, ◌≤ℤ◌, Option, None, Some, List, [], map}
use Rattle.cas_atoms.specs.Coordinates.{atom_at}
use Rattle.cas_atoms.specs.declared.atom.Atom.{Atom}
use Rattle.cas_laws.specs.Given.{Has}
use Rattle.cas_purge.specs.Droppable.{atom_end}
use Rattle.cas_facts.specs.declared.facts.Facts.{Facts}

-- the least of numbers: one of them, and none is below it
pub record IsLeast (numbers : List ℤ) (least : ℤ) : Type 0 where
  pub one : Has numbers least
  pub below : (n : ℤ) → Has numbers n → least ≤ℤ n

-- the greatest of numbers: one of them, and none is above it
pub record IsGreatest (numbers : List ℤ) (greatest : ℤ) : Type 0 where
  pub one : Has numbers greatest
  pub above : (n : ℤ) → Has numbers n → n ≤ℤ greatest

-- an end that has come by that second; what never ends has not
abbrev pub EndsBy : ℤ → Option ℤ → Type 0
EndsBy second None = ⊥
EndsBy second (Some end) = end ≤ℤ second

-- when the last of several ended: the greatest of their ends, where each of them has one; no second, where one of them never ends
abbrev pub IsLastEnd : List (Option ℤ) → Option ℤ → Type 0
IsLastEnd ends None = Has ends None
IsLastEnd ends (Some second) = Has ends (Some second) × ((end : Option ℤ) → Has ends end → EndsBy second end)

-- the facts of atoms: the least and the greatest timestamp, and when the last of them is dead, if each of them is one day; of no atoms there are none
pub record AreFacts (atoms : List Atom) (facts : Facts) : Type 0 where
  pub least : IsLeast (map atom_at atoms) facts.least
  pub greatest : IsGreatest (map atom_at atoms) facts.greatest
  pub dead : IsLastEnd (map atom_end atoms) facts.dead

-- the facts of the atoms so far, of which there may be none
abbrev pub AreFactsSoFar : List Atom → Option Facts → Type 0
AreFactsSoFar atoms None = atoms ≡ []
AreFactsSoFar atoms (Some facts) = AreFacts atoms facts
