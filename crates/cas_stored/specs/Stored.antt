-- Which mutations stand in which file of a table and in which memtable of it, in one shard, and what all of them say of a partition.
-- Cassandra documentation, "Storage engine: SSTables, memtables"; own.
use Rattle.std.specs.Prelude.{◌≡◌, ℕ, true, Option, Some, List, [], ◌∷◌, ◌++◌, take, drop}
use Rattle.std.specs.List.{AllByRecursion, Contains}
use Rattle.cas_types.specs.declared.schema.Column.{Column}
use Rattle.cas_cell.specs.declared.deletion.Deletion.{Deletion}
use Rattle.cas_bounds.specs.ClusteringOrder.{clustering_order}
use Rattle.cas_bounds.specs.declared.order.Ordered.{Ordered}
use Rattle.cas_bounds.specs.declared.cuts.Slice.{Slice}
use Rattle.cas_atoms.specs.Winners.{Same}
use Rattle.cas_atoms.specs.declared.atom.Mutation.{Mutation}
use Rattle.cas_laws.specs.Inside.{SameIn}
use Rattle.cas_streams.specs.Joined.{Stream}
use Rattle.cas_streams.specs.Merged.{flat_of, flats}
use Rattle.cas_streams.specs.NoMore.{SaysNoMore}
use Rattle.cas_streams.specs.Streams.{IsOrdered, WellFormed}
use Rattle.cas_streams.specs.declared.fragment.Fragment.{Fragment}
use Rattle.cas_merge.specs.Told.{streams_told}
use Rattle.cas_memtable.specs.Memtables.{IsOfColumns}
use Rattle.cas_memtable.specs.declared.memtable.MemPart.{MemPart}
use Rattle.cas_memtable.specs.declared.parts.Parts.{Parts}
use Rattle.cas_memtable.specs.Kept.{all_of, atoms_under, memtables_of, StandInEach}
use Rattle.cas_facts.specs.Facts.{AreFacts}
use Rattle.cas_facts.specs.declared.facts.Facts.{Facts}
use Rattle.cas_tables.specs.Contents.{Contents, Partition, atoms_of}
use Rattle.cas_tables.specs.Files.{info_of}
use Rattle.cas_sstread.specs.Loading.{Held}
use Rattle.cas_stored.specs.Contents.{HasNone, IsOf}
use Rattle.cas_view.specs.Views.{File, may_hold}

-- ---- files

-- a partition of a file says the same as the mutations together under its key, and no more; something was written there
pub record SaysWhatIsWritten (ws : List Mutation) (p : Partition) : Type 0 where
  pub same : Same (flat_of p.stream) (atoms_under p.key ws)
  pub no_more : SaysNoMore (flat_of p.stream) (atoms_under p.key ws)
  pub written : atoms_under p.key ws ≡ [] → ⊥

-- These mutations stand in the file, which is one of contents that its table may have, loaded as it tells of itself: each partition says what they wrote under
-- its key, and where there is none they wrote nothing; the key of each lies from the first to the last that is told of the file. Of a file that doesn't tell
-- its bytes none stand.
pub record StandInFile (order : List Ordered) (f : File Held) (ws : List Mutation) : Type 0 where
  pub contents : Contents
  pub facts : Facts
  pub of : IsOf f.table contents facts
  pub of_atoms : AreFacts (atoms_of contents) facts
  pub told : f.table.info ≡ info_of contents facts
  pub ordered : clustering_order f.table.columns ≡ order
  pub says : (p : Partition) → Contains contents.partitions p → SaysWhatIsWritten ws p
  pub none : (key : List ℕ) → HasNone contents key → atoms_under key ws ≡ []
  pub range : (p : Partition) → Contains contents.partitions p → may_hold f.info p.key ≡ true

-- the file is of a table with these columns
abbrev pub IsFileOf : List Column → File Held → Type 0
IsFileOf columns f = f.table.columns ≡ columns

-- ---- files and memtables

-- a table's files and memtables hold these mutations: file by file, and behind them memtable by memtable
abbrev pub HoldEach : List Ordered → List (File Held) → List MemPart → List (List Mutation) → Type 0
HoldEach order [] ms wss = StandInEach order ms wss
HoldEach order (f ∷ fs) ms [] = ⊥
HoldEach order (f ∷ fs) ms (ws ∷ wss) = StandInFile order f ws × HoldEach order fs ms wss

-- what a table has stored in a shard: its files, in the order in which they came, and its memtables
pub record StoredTable : Type 0 where
  pub files : List (File Held)
  pub parts : Parts

-- it holds these mutations: file by file, and behind them memtable by memtable
abbrev pub HoldsEach : List Ordered → StoredTable → List (List Mutation) → Type 0
HoldsEach order t wss = HoldEach order t.files (memtables_of t.parts) wss

-- files and memtables are of a table with these columns
pub record AreOfTable (columns : List Column) (fs : List (File Held)) (ms : List MemPart) : Type 0 where
  pub files : AllByRecursion (IsFileOf columns) fs
  pub memtables : AllByRecursion (IsOfColumns columns) ms

-- it is of a table with these columns
abbrev pub IsStoredOf : List Column → StoredTable → Type 0
IsStoredOf columns t = AreOfTable columns t.files (memtables_of t.parts)

-- Sources that show a partition: what they tell are streams in order, and well formed where files and memtables are of a table with some columns; in the slice
-- they say the same as the mutations together, and nowhere more. There is none exactly where nothing was written under the key.
pub record ShowStored {X : Type 0} (tells : X → Option (List Fragment)) (tops : X → Option Deletion) (order : List Ordered) (s : Slice) (key : List ℕ)
    (fs : List (File Held)) (ms : List MemPart) (ws : List Mutation) (sources : List X) : Type 0 where
  pub streams : List Stream
  pub told : streams_told tells tops sources ≡ Some streams
  pub ordered : AllByRecursion (λ x. IsOrdered order x.fragments) streams
  pub same : SameIn s (flats streams) (atoms_under key ws)
  pub no_more : SaysNoMore (flats streams) (atoms_under key ws)
  pub formed : (columns : List Column) → clustering_order columns ≡ order → AreOfTable columns fs ms
      → AllByRecursion (λ x. WellFormed columns x.fragments) streams
  pub none : sources ≡ [] → atoms_under key ws ≡ []
  pub some : atoms_under key ws ≡ [] → sources ≡ []

-- ---- a flush

-- the mutations of so many memtables, the oldest ones, behind those of so many files
abbrev pub oldest : ℕ → ℕ → List (List Mutation) → List Mutation
oldest files count wss = all_of (take count (drop files wss))

-- and behind them, in place of so many memtables, these in a file
abbrev pub flushed : ℕ → ℕ → List Mutation → List (List Mutation) → List (List Mutation)
flushed files count ws wss = take files wss ++ ws ∷ drop count (drop files wss)
