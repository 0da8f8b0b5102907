-- What holds of a shard's memory and of its files when a table is flushed, gets columns, or is new.
-- CQL documentation, "Data definition: CREATE TABLE, ALTER TABLE"; Cassandra documentation, "Storage engine: memtables, SSTables"; own.
use Rattle.std.specs.Prelude.{◌≡◌, ◌<◌, ◌≤◌, ℕ, List, [], ◌++◌, Option, Some, length, slice_get}
use Rattle.cas_types.specs.declared.schema.Column.{Column}
use Rattle.cas_types.specs.declared.schema.TableSchema.{TableSchema}
use Rattle.cas_bounds.specs.ClusteringOrder.{clustering_order}
use Rattle.cas_atoms.specs.declared.atom.Mutation.{Mutation}
use Rattle.cas_disk.specs.Disk.{Image}
use Rattle.cas_disk.specs.declared.name.Name.TheVariants.{Table as table_name}
use Rattle.cas_info.specs.Allowed.{FitsInfo}
use Rattle.cas_info.specs.declared.info.TableInfo.{TableInfo}
use Rattle.cas_memtable.specs.Kept.{HoldJust, StandInEach, all_of}
use Rattle.cas_memtable.specs.declared.memtable.MemPart.{MemPart}
use Rattle.cas_sstread.specs.declared.fault.TableFault.{TableFault}
use Rattle.cas_sstread.specs.Loading.{Held, IsNoBlock}
use Rattle.cas_view.specs.Views.{File}
use Rattle.cas_stored.specs.Stored.{StoredTable}
use Rattle.cas_listed.specs.Listed.{StandIn}
use Rattle.cas_widened.specs.Laws.{AreAdded}
use Rattle.cas_shard.specs.Flushing.{HasInMemory, SaysWhatTheyDo, bytes_at, frozen_at, memtables_at}
use Rattle.cas_shard.specs.Stands.{SaySame, ShardState, order_at}
use Rattle.cas_flushing.specs.Flushed.{IsFlushed, IsOpened, WhyUnopened}

-- ---- a flush

-- the mutations say under each key the same as whichever stand in the memtables, and no more
abbrev pub SayTheSame : List Column → List MemPart → List Mutation → Type 0
SayTheSame columns ms ws = (wss : List (List Mutation)) → StandInEach (clustering_order columns) ms wss → SaySame ws (all_of wss)

-- The file of a table in a shard, with one of these bytes, stands for memtables: mutations that say the same as those in the memtables, and no more, stand
-- in it, in each image that has it under its number; where it is opened it says what the memtables do, so that a swap leaves what the shard stands for;
-- and no place of it is bad.
pub record StandsForThem (t : TableSchema) (shard : ℕ) (ms : List MemPart) (told : TableInfo) (Bytes : List ℕ → Type 0) : Type 0 where
  pub written : List Mutation
  pub says : SayTheSame t.columns ms written
  pub listed : (c : Image) (b : List ℕ) → Bytes b → c (table_name told.number) ≡ Some b → StandIn t shard c told written
  pub opened : (tables : List TableSchema) (b : List ℕ) (f : File Held) → slice_get tables t.number ≡ Some t → Bytes b → IsOpened t shard told (Some b) f
      → SaysWhatTheyDo (order_at tables t.number) ms f
  pub whole : (b : List ℕ) (e : TableFault) → Bytes b → WhyUnopened t shard told (Some b) e → IsNoBlock e

-- The file that a flush wrote stands for the memtables that it was written of; what is told of it may be told of a table file, and its number is the draft's.
-- And what says the same as the frozen memtables, where nothing was written since, says the same as all that is in memory.
pub record FlushStands {D : Type 0} (number_of : D → ℕ) (written : D → List ℕ → Type 0) : Type 0 where
  pub stands : (t : TableSchema) (shard number : ℕ) (ms : List MemPart) (told : TableInfo) (draft : D)
      → IsFlushed number_of written t shard number ms told draft → StandsForThem t shard ms told (written draft)
  pub told : (t : TableSchema) (shard number : ℕ) (ms : List MemPart) (told : TableInfo) (draft : D)
      → IsFlushed number_of written t shard number ms told draft → FitsInfo told × (told.number ≡ number) × (number_of draft ≡ number)
  pub memory : (columns : List Column) (o : Option StoredTable) (vs ws : List Mutation) → bytes_at o ≡ 0 → HoldJust columns (memtables_at o) ws
      → SayTheSame columns (frozen_at o) vs → SaySame vs ws

-- ---- other tables

-- a table is the one that was there, with columns that ALTER TABLE ADD may add
abbrev pub IsWidened : Option TableSchema → TableSchema → Type 0
IsWidened old t = (before : TableSchema) × (more : List Column) × (old ≡ Some before) × (t.columns ≡ before.columns ++ more) × AreAdded more

-- what a shard has in memory of a table, each mutation being one that it may hold, it has of the table with added columns
abbrev pub AddedColumnsStay : Type 0
AddedColumnsStay = (tables wider : List TableSchema) (n : ℕ) (ws : List Mutation) (x : ShardState)
    → ((t : TableSchema) → slice_get wider n ≡ Some t → IsWidened (slice_get tables n) t) → HasInMemory tables n ws x → HasInMemory wider n ws x

-- with tables more, a shard has of each of the others in memory what it had; and of one for which it has nothing stored nothing is there
pub record NewTablesHoldNothing : Type 0 where
  pub others : (tables more : List TableSchema) (n : ℕ) (ws : List Mutation) (x : ShardState) → n < length tables → HasInMemory tables n ws x
      → HasInMemory (tables ++ more) n ws x
  pub nothing : (tables : List TableSchema) (n : ℕ) (x : ShardState) → length x.stores ≤ n → HasInMemory tables n [] x
