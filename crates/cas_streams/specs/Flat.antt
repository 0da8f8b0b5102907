-- What the fragments of a partition say, as atoms.
-- Cassandra documentation, "Operating: Compaction, tombstones"; that a range deletion is told by the markers at its ends is own.
use Rattle.std.specs.Prelude.{ℕ, Bool, true, Option, None, Some, List, [], ◌∷◌, ◌++◌, map, if◌then◌else◌}
use Rattle.std.specs.List.{flat_map}
use Rattle.cas_cell.specs.declared.deletion.Deletion.{Deletion}
use Rattle.cas_bounds.specs.Cuts.{is_past}
use Rattle.cas_bounds.specs.declared.cuts.Cut.{Cut}
use Rattle.cas_bounds.specs.declared.cuts.Clustering.{Clustering}
use Rattle.cas_atoms.specs.Coordinates.{RowKey, clustered, static_row}
use Rattle.cas_atoms.specs.declared.atom.ColumnRef.{ColumnRef}
use Rattle.cas_atoms.specs.declared.atom.Atom.{Atom}
use Rattle.cas_atoms.specs.declared.atom.Atom.TheVariants.{PartitionDeletion, RangeDeletion, RowDeletion, CollectionDeletion}
use Rattle.cas_atoms.specs.declared.atom.Atom.TheVariants.{Live, Write, StaticWrite, StaticCollectionDeletion}
use Rattle.cas_atoms.specs.declared.row.RowColumn.{RowColumn}
use Rattle.cas_atoms.specs.declared.row.PathCell.{PathCell}
use Rattle.cas_streams.specs.declared.fragment.Fragment.{Fragment}
use Rattle.cas_streams.specs.declared.fragment.Fragment.TheVariants as fragment

-- the atom that is made of what is there, if anything is
abbrev pub atom_of : {X : Type 0} → (X → Atom) → Option X → List Atom
atom_of make None = []
atom_of make (Some x) = make x ∷ []

-- ---- rows; the static row has no clustering

-- a cell written in a row
abbrev pub writes : Option Clustering → ColumnRef → PathCell → Atom
writes None column c = StaticWrite column c.path c.cell
writes (Some at) column c = Write at column c.path c.cell

-- a collection of a row deleted
abbrev pub empties : Option Clustering → ColumnRef → Deletion → Atom
empties None column d = StaticCollectionDeletion column d
empties (Some at) column d = CollectionDeletion at column d

-- a column of a row: its deletion, and its cells
abbrev pub of_column : Option Clustering → RowColumn → List Atom
of_column at c = atom_of (empties at c.column) c.deletion ++ map (writes at c.column) c.cells

-- what a fragment says of its own row; a marker says nothing of one
abbrev pub own : Fragment → List Atom
own (fragment.Static columns) = flat_map (of_column None) columns
own (fragment.Row r) =
    atom_of (RowDeletion r.clustering) r.deletion ++ (atom_of (Live r.clustering) r.live ++ flat_map (of_column (Some r.clustering)) r.columns)
own (fragment.Marker cut d) = []

-- ---- range deletions

-- from a cut on, a deletion is in force, or none
pub record Change : Type 0 where
  pub at : Cut
  pub to : Option Deletion

-- the changes of what is in force that the markers tell
abbrev pub changes : List Fragment → List Change
changes [] = []
changes (fragment.Static columns ∷ fs) = changes fs
changes (fragment.Row r ∷ fs) = changes fs
changes (fragment.Marker cut d ∷ fs) = record { at = cut; to = d } ∷ changes fs

-- what is in force from one change to the next
abbrev pub between : Change → Change → List Atom
between m n = atom_of (RangeDeletion m.at n.at) m.to

-- a change and those that follow: each reaches up to the next, and the last nowhere
abbrev pub ranges_after : Change → List Change → List Atom
ranges_after m [] = []
ranges_after m (n ∷ ms) = between m n ++ ranges_after n ms

-- the range deletions that changes tell
abbrev pub ranges : List Change → List Atom
ranges [] = []
ranges (m ∷ ms) = ranges_after m ms

-- what is in force after those changes whose cuts pass a test, if before them it is `now`
abbrev pub after : (Cut → Bool) → Option Deletion → List Change → Option Deletion
after passes now [] = now
after passes now (m ∷ ms) = after passes (if passes m.at then m.to else now) ms

-- what is in force after all changes
abbrev pub at_end : Option Deletion → List Change → Option Deletion
at_end now ms = after (λ cut. true) now ms

-- what is in force at a row, by the changes that it is past
abbrev pub reaching : Option Deletion → List Change → List (List ℕ) → Option Deletion
reaching now ms c = after (λ cut. is_past cut c) now ms

-- the range deletion in force at a row; at the static row none is
abbrev pub in_force : List Fragment → RowKey → Option Deletion
in_force fs static_row = None
in_force fs (clustered c) = reaching None (changes fs) c

-- ---- streams

-- a stream's atoms: the deletion of the whole partition, the range deletions, and what the fragments say of their rows
abbrev pub flat : Option Deletion → List Fragment → List Atom
flat top fs = atom_of PartitionDeletion top ++ (ranges (changes fs) ++ flat_map own fs)
