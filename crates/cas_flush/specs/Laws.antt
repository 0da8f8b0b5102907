-- What holds of streams that say no more than atoms that a table may hold (own).
use Rattle.std.specs.Prelude.{List, [], Option}
use Rattle.std.specs.List.{AllByRecursion}
use Rattle.cas_types.specs.declared.schema.Column.{Column}
use Rattle.cas_cell.specs.declared.deletion.Deletion.{Deletion}
use Rattle.cas_atoms.specs.Winners.{Same}
use Rattle.cas_atoms.specs.declared.atom.Atom.{Atom}
use Rattle.cas_atoms.specs.declared.atom.Atom.TheVariants.{PartitionDeletion, RangeDeletion, RowDeletion, CollectionDeletion}
use Rattle.cas_atoms.specs.declared.atom.Atom.TheVariants.{Live, Write, StaticWrite, StaticCollectionDeletion}
use Rattle.cas_streams.specs.Flat.{changes, flat}
use Rattle.cas_streams.specs.Joined.{Stream}
use Rattle.cas_streams.specs.Merged.{merged, flats}
use Rattle.cas_streams.specs.NoMore.{SaysNoMore}
use Rattle.cas_streams.specs.Streams.{WellFormed}
use Rattle.cas_streams.specs.declared.fragment.Fragment.{Fragment}
use Rattle.cas_partition.specs.Partitions.{AllFit, AreAtCuts}
use Rattle.cas_flush.specs.Fitting.{FitsTable, HasRoom}

-- A well-formed stream fits the table if it says no more than atoms that the table may hold, its markers stand at cuts that the table may have, and its
-- lengths have room in their fields. That nothing is invented doesn't tell at which cuts a range stands, and a row may be longer than any mutation.
abbrev pub WhatIsAllowedFits : Type 0
WhatIsAllowedFits = (columns : List Column) (top : Option Deletion) (fs : List Fragment) (atoms : List Atom) → WellFormed columns fs
    → AreAtCuts columns (changes fs) → SaysNoMore (flat top fs) atoms → AllFit columns atoms → HasRoom fs → FitsTable columns top fs

-- the markers of a merge stand at cuts that the table may have, where those of its streams do
abbrev pub MergesKeepCuts : Type 0
MergesKeepCuts = (columns : List Column) (ss : List Stream) → AllByRecursion (λ s. AreAtCuts columns (changes s.fragments)) ss
    → AreAtCuts columns (changes (merged ss).fragments)

-- so the merge of well-formed streams fits the table if together they say no more than atoms that it may hold
abbrev pub MergesFit : Type 0
MergesFit = (columns : List Column) (ss : List Stream) (atoms : List Atom) → AllByRecursion (λ s. WellFormed columns s.fragments) ss
    → AllByRecursion (λ s. AreAtCuts columns (changes s.fragments)) ss → SaysNoMore (flats ss) atoms → AllFit columns atoms
    → HasRoom (merged ss).fragments → FitsTable columns (merged ss).top (merged ss).fragments

-- ---- what says nothing

-- a range deletion
abbrev pub IsRange : Atom → Type 0
IsRange (PartitionDeletion d) = ⊥
IsRange (RangeDeletion lo hi d) = Unit {0}
IsRange (RowDeletion c d) = ⊥
IsRange (CollectionDeletion c column d) = ⊥
IsRange (Live c l) = ⊥
IsRange (Write c column p v) = ⊥
IsRange (StaticWrite column p v) = ⊥
IsRange (StaticCollectionDeletion column d) = ⊥

-- atoms that together are the same as none are range deletions, in whose ranges no row can lie
abbrev pub SilentAreRanges : Type 0
SilentAreRanges = (atoms : List Atom) → Same [] atoms → AllByRecursion IsRange atoms
