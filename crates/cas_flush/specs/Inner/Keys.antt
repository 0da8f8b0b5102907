-- One key of a flush (own).
use Rattle.std.specs.Prelude.{◌≡◌, ◌⊎◌, ℕ, Bool, true, false, not, List, [], ◌++◌, length, Option}
use Rattle.cas_types.specs.declared.schema.Column.{Column}
use Rattle.cas_cell.specs.declared.deletion.Deletion.{Deletion}
use Rattle.cas_bounds.specs.ClusteringOrder.{clustering_order}
use Rattle.cas_bounds.specs.declared.cuts.Cut.{Cut}
use Rattle.cas_bounds.specs.declared.cuts.Slice.{Slice}
use Rattle.cas_bounds.specs.declared.order.Ordered.{Ordered}
use Rattle.cas_atoms.specs.Winners.{Same}
use Rattle.cas_atoms.specs.declared.atom.Mutation.{Mutation}
use Rattle.cas_streams.specs.Flat.{changes, flat}
use Rattle.cas_streams.specs.Joined.{Stream}
use Rattle.cas_streams.specs.NoMore.{SaysNoMore}
use Rattle.cas_streams.specs.Streams.{IsThere}
use Rattle.cas_streams.specs.declared.fragment.Fragment.{Fragment}
use Rattle.cas_partition.specs.Ends.{AllAtEnds}
use Rattle.cas_memtable.specs.Memtables.{is_above}
use Rattle.cas_memtable.specs.declared.memtable.MemPart.{MemPart}
use Rattle.cas_memtable.specs.Kept.{StandInEach, all_of, atoms_under}
use Rattle.cas_tables.specs.declared.header.Header.{Header}
use Rattle.cas_tables.specs.Contents.{Partition, Contents}
use Rattle.cas_tables.specs.Files.{index_of, front_bytes}
use Rattle.cas_sstwrite.specs.declared.fault.PartitionFault.{PartitionFault}
use Rattle.cas_sstwrite.specs.declared.fault.PartitionFault.TheVariants.{Write, Source}
use Rattle.cas_sstwrite.specs.declared.fault.WriteFault.{WriteFault}
use Rattle.cas_sstwrite.specs.declared.fault.WriteFault.TheVariants.{Order, Mem}
use Rattle.cas_sstwrite.specs.declared.held.TableWriter.{TableWriter}
use Rattle.cas_sstwrite.specs.Causes.{Causes}
use Rattle.cas_sstwrite.specs.Writers.{Writes, partition_of}
use Rattle.cas_flush.specs.Flushed.{MayStand, SayWhatIsHeld, SaysWhatIsUnder, is_below}

-- ---- all rows of a partition

-- one end of a partition
abbrev pub end_at : List Ordered → Bool → Cut
end_at order after = record { prefix = []; after = after; order = order }

-- from one end to the other
pub record IsWhole (columns : List Column) (s : Slice) : Type 0 where
  pub lo : s.lo ≡ end_at (clustering_order columns) false
  pub hi : s.hi ≡ end_at (clustering_order columns) true

-- ---- faults

-- a source in memory has no fault but that memory ran out
abbrev pub told : {E : Type 0} → PartitionFault E → WriteFault
told (Write e) = e
told (Source e) = Mem

-- the writer's reason not to write a stream under a key, which says what the memtables hold there
pub record Refuses (columns : List Column) (c : Contents) (key : List ℕ) (ms : List MemPart) (e : WriteFault) : Type 0 where
  pub stream : Stream
  pub says : SaysWhatIsUnder columns ms key stream
  pub causes : Causes (index_of c) (length (front_bytes c)) key stream.top stream.fragments e

-- or memory ran out
abbrev pub KeyFault : List Column → Contents → List ℕ → List MemPart → WriteFault → Type 0
KeyFault columns c key ms e = (e ≡ Mem) ⊎ Refuses columns c key ms e

-- behind the partitions of the keys below some key
pub record Stops (columns : List Column) (header : Header) (level : ℕ) (ms : List MemPart) (e : WriteFault) : Type 0 where
  pub before : List Partition
  pub key : List ℕ
  pub stand : MayStand columns before
  pub below : SayWhatIsHeld columns ms (is_below key) before
  pub why : Refuses columns (record { header = header; level = level; partitions = before }) key ms e
  pub order : e ≡ Order → ⊥

abbrev pub StopsAt : List Column → Header → ℕ → List MemPart → WriteFault → Type 0
StopsAt columns header level ms e = (e ≡ Mem) ⊎ Stops columns header level ms e

-- ---- what is written

-- one partition more, if something is said of it: a stream that says what whichever mutations stand in the memtables say under the key
pub record WritesKey {D E : Type 0} (number_of : D → ℕ) (written : D → List ℕ → Type 0) (columns : List Column) (w : TableWriter D E) (ps : List Partition)
    (under : List ℕ) (ms : List MemPart) : Type 0 where
  pub top : Option Deletion
  pub fragments : List Fragment
  pub same : (wss : List (List Mutation)) → StandInEach (clustering_order columns) ms wss → Same (flat top fragments) (atoms_under under (all_of wss))
  pub no_more : (wss : List (List Mutation)) → StandInEach (clustering_order columns) ms wss → SaysNoMore (flat top fragments) (atoms_under under (all_of wss))
  pub some : (wss : List (List Mutation)) → StandInEach (clustering_order columns) ms wss → IsThere (atoms_under under (all_of wss))
      → IsThere (flat top fragments)
  pub ends : (wss : List (List Mutation)) → StandInEach (clustering_order columns) ms wss → AllAtEnds (atoms_under under (all_of wss)) (changes fragments)
  pub writes : Writes number_of written columns w (ps ++ partition_of under top fragments)

-- the keys up to that one, or none
abbrev pub is_reached : Option (List ℕ) → List ℕ → Bool
is_reached after key = not (is_above after key)
