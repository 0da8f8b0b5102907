-- What a flush of a table in a shard writes, and the file that is opened of it.
-- Cassandra documentation, "Storage engine: memtables, SSTables"; own.
use Rattle.std.specs.Prelude.{◌≡◌, ℕ, List, [], Option, None, Some, Ok}
use Rattle.cas_types.specs.declared.schema.TableSchema.{TableSchema}
use Rattle.cas_bounds.specs.ClusteringOrder.{clustering_order}
use Rattle.cas_info.specs.declared.info.TableInfo.{TableInfo}
use Rattle.cas_memtable.specs.declared.memtable.MemPart.{MemPart}
use Rattle.cas_tables.specs.declared.header.Header.{Header}
use Rattle.cas_fragments.specs.declared.heads.Version.TheVariants.{Second}
use Rattle.cas_tables.specs.Contents.{Partition}
use Rattle.cas_sstwrite.specs.Finished.{IsFinished}
use Rattle.cas_flush.specs.Flushed.{SayWhatIsHeld, any, at_level_0}
use Rattle.cas_sstread.specs.declared.fault.TableFault.{TableFault}
use Rattle.cas_sstread.specs.declared.fault.TableFault.TheVariants.{ReadFault as Unread, BadBlock, Mem}
use Rattle.cas_sstread.specs.Loading.{Held, IsBadAt}
use Rattle.cas_sstread.specs.Reading.{loaded_at}
use Rattle.cas_view.specs.Views.{File}

-- ---- the file that is written

-- the head of the file of that number, of a table in that shard
abbrev pub head_of : TableSchema → ℕ → ℕ → Header
head_of t shard number = record { version = Second; table = t.number; shard = shard; number = number }

-- The draft is the file of that number of a table in a shard, in the first level, of which that is told; its partitions say what the memtables hold.
pub record IsFlushed {D : Type 0} (number_of : D → ℕ) (written : D → List ℕ → Type 0) (t : TableSchema) (shard number : ℕ) (ms : List MemPart)
    (told : TableInfo) (draft : D) : Type 0 where
  pub partitions : List Partition
  pub says : SayWhatIsHeld t.columns ms any partitions
  pub file : IsFinished number_of written t.columns (at_level_0 (head_of t shard number) partitions) told draft

-- How memtables are flushed: there is no file, where a file without partitions would say what they hold; else the draft is theirs.
abbrev pub Flushes : {D : Type 0} → (D → ℕ) → (D → List ℕ → Type 0) → TableSchema → ℕ → ℕ → List MemPart → Option (TableInfo × D) → Type 0
Flushes number_of written t shard number ms None = SayWhatIsHeld t.columns ms any []
Flushes number_of written t shard number ms (Some p) = IsFlushed number_of written t shard number ms p.0 p.1

-- ---- the file that is opened

-- The file of a table in a shard, of which that is told, is open, and may be read in slices. Where its bytes are told, index and filter are what they have.
pub record IsOpened (t : TableSchema) (shard : ℕ) (told : TableInfo) (bytes : Option (List ℕ)) (f : File Held) : Type 0 where
  pub contents : f.table.contents ≡ bytes
  pub columns : f.table.columns ≡ t.columns
  pub info : f.info ≡ told
  pub own_info : f.table.info ≡ told
  pub kept : (b : List ℕ) → bytes ≡ Some b → loaded_at (clustering_order t.columns) t.number shard told b ≡ Ok f.table.kept

-- why the file isn't opened: it wasn't read; the bytes of the file of that number, where they are told, aren't as they must be or as they are listed at
-- that place; or memory ran out
abbrev pub WhyUnopened : TableSchema → ℕ → TableInfo → Option (List ℕ) → TableFault → Type 0
WhyUnopened t shard told bytes Unread = Unit {0}
WhyUnopened t shard told bytes (BadBlock n at) =
    (b : List ℕ) → bytes ≡ Some b → (n ≡ told.number) × IsBadAt (loaded_at (clustering_order t.columns) t.number shard told b) at
WhyUnopened t shard told bytes Mem = Unit {0}
