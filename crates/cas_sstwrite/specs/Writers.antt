-- What somebody who writes a table file has written so far.
-- Cassandra documentation, "Storage engine: SSTables"; own.
use Rattle.std.specs.Prelude.{◌≡◌, ◌≤◌, ℕ, List, [], ◌∷◌, length, Option, None, Some, IfSome, Result, Ok, Err}
use Rattle.std.specs.List.{AllByRecursion}
use Rattle.std.specs.List.Sorted.{IsStrictlySortedBy}
use Rattle.cas_types.specs.Values.{bytes_cmp}
use Rattle.cas_types.specs.Schemas.{is_static}
use Rattle.cas_types.specs.declared.schema.Column.{Column}
use Rattle.cas_cell.specs.declared.deletion.Deletion.{Deletion}
use Rattle.cas_atoms.specs.Fits.{FitsKey, FitsDeletion}
use Rattle.cas_info.specs.declared.info.TheConstants.{LAST_LEVEL}
use Rattle.cas_streams.specs.Streams.{WellFormed}
use Rattle.cas_streams.specs.declared.fragment.Fragment.{Fragment}
use Rattle.cas_facts.specs.Facts.{AreFactsSoFar}
use Rattle.cas_fragments.specs.Allowed.{FitColumns, FitsFragment}
use Rattle.cas_fragments.specs.Blocks.{statics_in, behind_statics}
use Rattle.cas_fragments.specs.declared.heads.Version.TheVariants.{Second}
use Rattle.cas_tables.specs.Allowed.{FitsHeader}
use Rattle.cas_tables.specs.Contents.{Partition, Contents, keys, atoms_of}
use Rattle.cas_tables.specs.Files.{front_bytes, index_of}
use Rattle.cas_tables.specs.Fitting.{FitsPartition}
use Rattle.cas_index.specs.declared.entries.PartitionEntry.{PartitionEntry}
use Rattle.cas_sstwrite.specs.declared.fault.PartitionFault.{PartitionFault}
use Rattle.cas_sstwrite.specs.declared.held.TableWriter.{TableWriter}

-- the fault that the writer answered; from then on it answers no other
abbrev pub fault_of : {D E : Type 0} → TableWriter D E → Option (PartitionFault E)
fault_of w = w.broken

-- what its index is to tell so far
abbrev pub entries_of : {D E : Type 0} → TableWriter D E → List PartitionEntry
entries_of w = w.entries.items

-- where the next partition is to stand
abbrev pub place_of : {D E : Type 0} → TableWriter D E → ℕ
place_of w = w.sink.place

-- a file with the writer's header and level, of these partitions
abbrev pub contents_of : {D E : Type 0} → TableWriter D E → List Partition → Contents
contents_of w ps = record { header = w.header; level = w.level; partitions = ps }

-- The writer has written these partitions of a table with these columns: its draft has, where it tells its bytes, the header and their texts; and what will
-- stand behind these is known.
pub record Writes {D E : Type 0} (number_of : D → ℕ) (written : D → List ℕ → Type 0) (columns : List Column) (w : TableWriter D E)
    (ps : List Partition) : Type 0 where
  pub header : FitsHeader w.header
  pub version : w.header.version ≡ Second
  pub level : w.level ≤ LAST_LEVEL
  pub number : number_of w.sink.draft ≡ w.header.number
  pub text : (bytes : List ℕ) → written w.sink.draft bytes → bytes ≡ front_bytes (contents_of w ps)
  pub place : w.sink.place ≡ length (front_bytes (contents_of w ps))
  pub entries : w.entries.items ≡ index_of (contents_of w ps)
  pub facts : AreFactsSoFar (atoms_of (contents_of w ps)) w.seen.facts
  pub ascend : IsStrictlySortedBy bytes_cmp (keys (contents_of w ps))
  pub each : AllByRecursion (FitsPartition columns) ps

-- ---- one partition more

-- a key and a stream of which a table with these columns may hold all that is said
pub record FitsStream (columns : List Column) (under : List ℕ) (over : Option Deletion) (fs : List Fragment) : Type 0 where
  pub key : FitsKey under
  pub top : IfSome over FitsDeletion
  pub well_formed : WellFormed columns fs
  pub statics : FitColumns is_static columns (statics_in fs)
  pub rest : AllByRecursion (FitsFragment columns) (behind_statics fs)

-- the partition, or none where nothing is said of it
abbrev pub partition_of : List ℕ → Option Deletion → List Fragment → List Partition
partition_of key None [] = []
partition_of key None (f ∷ fs) = record { key = key; stream = record { top = None; fragments = f ∷ fs } } ∷ []
partition_of key (Some d) fs = record { key = key; stream = record { top = Some d; fragments = fs } } ∷ []

-- ---- faults

-- a writer that has answered a fault answers it again and stays so; one that hasn't is broken by the fault that it answers, and by nothing else
abbrev pub Repeats : {T F : Type 0} → Option F → Option F → Result T F → Type 0
Repeats before after (Ok x) = (before ≡ None) × (after ≡ None)
Repeats None after (Err e) = after ≡ Some e
Repeats (Some d) after (Err e) = (d ≡ e) × (after ≡ Some e)
