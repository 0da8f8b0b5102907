-- When what was written to a table is too much for one table file.
-- Cassandra documentation, "Storage engine: SSTables"; the limits of a file are own.
use Rattle.std.specs.Prelude.{◌<◌, ◌⊎◌, ℕ, List, length}
use Rattle.std.specs.List.{AllByRecursion}
use Rattle.cas_types.specs.declared.schema.TableSchema.{TableSchema}
use Rattle.cas_atoms.specs.declared.atom.Mutation.{Mutation}
use Rattle.cas_facts.specs.Facts.{AreFacts}
use Rattle.cas_facts.specs.declared.facts.Facts.{Facts}
use Rattle.cas_flush.specs.Flushed.{at_level_0}
use Rattle.cas_flushing.specs.Flushed.{head_of}
use Rattle.cas_info.specs.declared.info.TheConstants.{FILE_LIMIT}
use Rattle.cas_memtable.specs.Kept.{MayHold}
use Rattle.cas_sizes.specs.Little.{SaysUnder, SayUnder}
use Rattle.cas_sstwrite.specs.Causes.{IsUnfit, TooMuch}
use Rattle.cas_sstwrite.specs.declared.fault.Measure.{Measure}
use Rattle.cas_streams.specs.Joined.{Stream}
use Rattle.cas_tables.specs.Contents.{Partition, atoms_of}
use Rattle.cas_tables.specs.Files.{front_bytes, table_bytes}

-- A stream that says no more than these mutations do under its key is too much for the file, behind partitions that say no more under theirs: 2^28 of them
-- are there, or its bytes would be more than 2^40, or those of a block 2^32 or more; or a number or a length has no room in its field, as that of 2^32 cells
-- of a collection.
pub record OneIsTooMuch (t : TableSchema) (shard : ℕ) (ws : List Mutation) : Type 0 where
  pub number : ℕ
  pub before : List Partition
  pub say : SayUnder t.columns ws before
  pub key : List ℕ
  pub stream : Stream
  pub says : SaysUnder t.columns ws key stream
  pub why : ((what : Measure)
      × TooMuch what (length before) (length (front_bytes (at_level_0 (head_of t shard number) before))) key stream.top stream.fragments)
      ⊎ IsUnfit key stream.fragments

-- or the file of such partitions, with its index, its filter and what is told of it, would have more than 2^40 bytes
pub record AllIsTooMuch (t : TableSchema) (shard : ℕ) (ws : List Mutation) : Type 0 where
  pub number : ℕ
  pub partitions : List Partition
  pub say : SayUnder t.columns ws partitions
  pub facts : Facts
  pub of_atoms : AreFacts (atoms_of (at_level_0 (head_of t shard number) partitions)) facts
  pub long : FILE_LIMIT < length (table_bytes (at_level_0 (head_of t shard number) partitions) facts)

-- what these mutations wrote to the table in the shard is too much for one file
abbrev pub IsTooMuch : TableSchema → ℕ → List Mutation → Type 0
IsTooMuch t shard ws = OneIsTooMuch t shard ws ⊎ AllIsTooMuch t shard ws

-- so it is of mutations each of which the table may hold
abbrev pub IsOverfull : TableSchema → ℕ → List Mutation → Type 0
IsOverfull t shard ws = AllByRecursion (MayHold t.columns) ws × IsTooMuch t shard ws
