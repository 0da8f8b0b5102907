-- What a flush writes: a table file that says, key by key, what the memtables' mutations say.
-- Cassandra documentation, "Storage engine: SSTables; memtables"; own.
use Rattle.std.specs.Prelude.{◌≡◌, ◌⊎◌, ℕ, Bool, true, List, [], length, map, if◌then◌else◌}
use Rattle.std.specs.List.{AllByRecursion, flat_map}
use Rattle.std.specs.List.Sorted.{IsStrictlySortedBy}
use Rattle.std.specs.Ordering.{is_lt}
use Rattle.cas_types.specs.Values.{bytes_cmp}
use Rattle.cas_types.specs.declared.schema.Column.{Column}
use Rattle.cas_bounds.specs.ClusteringOrder.{clustering_order}
use Rattle.cas_atoms.specs.Coordinates.{same_bytes}
use Rattle.cas_atoms.specs.Fits.{FitsKey}
use Rattle.cas_atoms.specs.Winners.{Same}
use Rattle.cas_atoms.specs.declared.atom.Atom.{Atom}
use Rattle.cas_atoms.specs.declared.atom.Mutation.{Mutation}
use Rattle.cas_streams.specs.Flat.{changes}
use Rattle.cas_streams.specs.Joined.{Stream}
use Rattle.cas_streams.specs.Merged.{flat_of}
use Rattle.cas_streams.specs.NoMore.{SaysNoMore}
use Rattle.cas_streams.specs.Streams.{IsThere, WellFormed}
use Rattle.cas_partition.specs.Ends.{AllAtEnds}
use Rattle.cas_partition.specs.Partitions.{AreAtCuts}
use Rattle.cas_memtable.specs.declared.memtable.MemPart.{MemPart}
use Rattle.cas_memtable.specs.Kept.{StandInEach, all_of, atoms_under}
use Rattle.cas_tables.specs.declared.header.Header.{Header}
use Rattle.cas_tables.specs.Contents.{Partition, Contents}
use Rattle.cas_tables.specs.Files.{index_of, front_bytes}
use Rattle.cas_tables.specs.Fitting.{FitsPartition}
use Rattle.cas_sstwrite.specs.declared.fault.Measure.{Measure}
use Rattle.cas_sstwrite.specs.declared.fault.PartitionFault.TheVariants.{Write}
use Rattle.cas_sstwrite.specs.declared.fault.WriteFault.{WriteFault}
use Rattle.cas_sstwrite.specs.declared.fault.WriteFault.TheVariants.{Failed, Order, TooMany, Unfit, Mem}
use Rattle.cas_sstwrite.specs.Causes.{Causes}
use Rattle.cas_sstwrite.specs.Finished.{FinishFault}

-- ---- what is written

-- what a partition says under a key
abbrev pub said_at : List ℕ → Partition → List Atom
said_at key p = if same_bytes p.key key then flat_of p.stream else []

-- what partitions say under a key, one after another
abbrev pub said_under : List ℕ → List Partition → List Atom
said_under key ps = flat_map (said_at key) ps

-- Partitions are those of mutations at the keys that pass a test: under each they say the same as the mutations, and no more, and something where an atom
-- was written, be it one that covers no row; and each is of such a key, under which something was written, and has markers only at ends of range deletions
-- that were.
pub record AreOf (passes : List ℕ → Bool) (ws : List Mutation) (ps : List Partition) : Type 0 where
  pub same : (key : List ℕ) → passes key ≡ true → Same (said_under key ps) (atoms_under key ws)
  pub no_more : (key : List ℕ) → passes key ≡ true → SaysNoMore (said_under key ps) (atoms_under key ws)
  pub all : (key : List ℕ) → passes key ≡ true → IsThere (atoms_under key ws) → IsThere (said_under key ps)
  pub written : AllByRecursion (λ p. IsThere (atoms_under p.key ws)) ps
  pub ends : AllByRecursion (λ p. AllAtEnds (atoms_under p.key ws) (changes p.stream.fragments)) ps
  pub within : AllByRecursion (λ p. passes p.key ≡ true) ps

-- the partitions say what memtables of a table with these columns hold, at the keys that pass: they are those of whichever mutations stand in these
abbrev pub SayWhatIsHeld : List Column → List MemPart → (List ℕ → Bool) → List Partition → Type 0
SayWhatIsHeld columns ms passes ps = (wss : List (List Mutation)) → StandInEach (clustering_order columns) ms wss → AreOf passes (all_of wss) ps

-- every key
abbrev pub any : List ℕ → Bool
any key = true

-- the keys below one
abbrev pub is_below : List ℕ → List ℕ → Bool
is_below key k = is_lt (bytes_cmp k key)

-- the contents of a file of the first level
abbrev pub at_level_0 : Header → List Partition → Contents
at_level_0 header ps = record { header = header; level = 0; partitions = ps }

-- ---- faults

-- partitions that stand in a file of a table with these columns: each is one that the table may have, and their keys ascend
pub record MayStand (columns : List Column) (ps : List Partition) : Type 0 where
  pub each : AllByRecursion (FitsPartition columns) ps
  pub ascend : IsStrictlySortedBy bytes_cmp (map (λ p. p.key) ps)

-- a well-formed stream, whose markers stand at cuts that the table may have, says what memtables hold under a key: it says the same as whichever mutations
-- stand in these, and no more, and each of its markers stands at an end of one of their range deletions
pub record SaysWhatIsUnder (columns : List Column) (ms : List MemPart) (key : List ℕ) (s : Stream) : Type 0 where
  pub key_fits : FitsKey key
  pub formed : WellFormed columns s.fragments
  pub cuts : AreAtCuts columns (changes s.fragments)
  pub same : (wss : List (List Mutation)) → StandInEach (clustering_order columns) ms wss → Same (flat_of s) (atoms_under key (all_of wss))
  pub no_more : (wss : List (List Mutation)) → StandInEach (clustering_order columns) ms wss → SaysNoMore (flat_of s) (atoms_under key (all_of wss))
  pub ends : (wss : List (List Mutation)) → StandInEach (clustering_order columns) ms wss → AllAtEnds (atoms_under key (all_of wss)) (changes s.fragments)

-- at a key the writer answered that fault: behind the partitions of the keys below it, to a stream that says what the memtables hold there
pub record Hinders (columns : List Column) (header : Header) (ms : List MemPart) (e : WriteFault) : Type 0 where
  pub before : List Partition
  pub key : List ℕ
  pub stream : Stream
  pub stand : MayStand columns before
  pub below : SayWhatIsHeld columns ms (is_below key) before
  pub says : SaysWhatIsUnder columns ms key stream
  pub causes : Causes (index_of (at_level_0 header before)) (length (front_bytes (at_level_0 header before))) key stream.top stream.fragments e

-- or at the end, behind all partitions
pub record EndsLong (columns : List Column) (header : Header) (ms : List MemPart) (what : Measure) (limit : ℕ) : Type 0 where
  pub partitions : List Partition
  pub stand : MayStand columns partitions
  pub all : SayWhatIsHeld columns ms any partitions
  pub why : FinishFault {E = Unit {0}} (at_level_0 header partitions) (Write (TooMany what limit))

-- Why memtables of a table with these columns aren't written to a file with this header. Keys are never out of order. That the disk failed is told by the
-- counts.
abbrev pub FlushFault : List Column → Header → List MemPart → WriteFault → Type 0
FlushFault columns header ms Failed = Unit {0}
FlushFault columns header ms Order = ⊥
FlushFault columns header ms (TooMany what limit) = Hinders columns header ms (TooMany what limit) ⊎ EndsLong columns header ms what limit
FlushFault columns header ms Unfit = Hinders columns header ms Unfit
FlushFault columns header ms Mem = Unit {0}
