-- The table files that are listed of a table in a shard: which mutations stand in them, in an image of the disk, and when files that are open are these.
-- Cassandra documentation, "Storage engine: SSTables"; own.
use Rattle.std.specs.Prelude.{◌≡◌, ℕ, Some, Ok, List, [], ◌∷◌, ◌++◌}
use Rattle.std.specs.List.{AllByRecursion, Contains}
use Rattle.cas_types.specs.declared.schema.TableSchema.{TableSchema}
use Rattle.cas_bounds.specs.ClusteringOrder.{clustering_order}
use Rattle.cas_atoms.specs.declared.atom.Mutation.{Mutation}
use Rattle.cas_facts.specs.Facts.{AreFacts}
use Rattle.cas_facts.specs.declared.facts.Facts.{Facts}
use Rattle.cas_memtable.specs.Kept.{atoms_under}
use Rattle.cas_info.specs.declared.info.TableInfo.{TableInfo}
use Rattle.cas_disk.specs.Disk.{Image, bytes_of}
use Rattle.cas_disk.specs.declared.name.Name.TheVariants.{Table as table_name}
use Rattle.cas_tables.specs.Contents.{Contents, Partition, atoms_of}
use Rattle.cas_tables.specs.Files.{info_of, table_bytes}
use Rattle.cas_tables.specs.Fitting.{FitsContents}
use Rattle.cas_sstread.specs.Reading.{Loaded, loaded_at}
use Rattle.cas_sstread.specs.Loading.{Held, IsBadAt}
use Rattle.cas_view.specs.Views.{File}
use Rattle.cas_stored.specs.Contents.{HasNone}
use Rattle.cas_stored.specs.Stored.{SaysWhatIsWritten}

-- ---- files in an image

-- the table file of these contents stands in the image under its number, as it is listed, of that table and that shard
pub record IsFileIn (t : TableSchema) (shard : ℕ) (c : Image) (i : TableInfo) (x : Contents) : Type 0 where
  pub facts : Facts
  pub fits : FitsContents t.columns x
  pub of_atoms : AreFacts (atoms_of x) facts
  pub table_is : x.header.table ≡ t.number
  pub shard_is : x.header.shard ≡ shard
  pub listed : i ≡ info_of x facts
  pub there : c (table_name i.number) ≡ Some (table_bytes x facts)

-- these mutations stand in the listed file: each partition of its contents says what they wrote under its key, and where it has none they wrote nothing
pub record StandIn (t : TableSchema) (shard : ℕ) (c : Image) (i : TableInfo) (ws : List Mutation) : Type 0 where
  pub contents : Contents
  pub file : IsFileIn t shard c i contents
  pub says : (p : Partition) → Contains contents.partitions p → SaysWhatIsWritten ws p
  pub none : (key : List ℕ) → HasNone contents key → atoms_under key ws ≡ []

-- in each of the listed files these
abbrev pub StandInFiles : TableSchema → ℕ → Image → List TableInfo → List (List Mutation) → Type 0
StandInFiles t shard c [] [] = Unit {0}
StandInFiles t shard c (i ∷ infos) (ws ∷ wss) = StandIn t shard c i ws × StandInFiles t shard c infos wss
StandInFiles t shard c [] (ws ∷ wss) = ⊥
StandInFiles t shard c (i ∷ infos) [] = ⊥

-- ---- files that are loaded

-- The file that is open is the listed one of that table and that shard, loaded: its bytes are those that stand in the image under its number, and what it was
-- loaded by is what is listed of it.
pub record IsLoaded (t : TableSchema) (shard : ℕ) (c : Image) (i : TableInfo) (f : File Held) : Type 0 where
  pub bytes : List ℕ
  pub there : c (table_name i.number) ≡ Some bytes
  pub contents : f.table.contents ≡ Some bytes
  pub columns : f.table.columns ≡ t.columns
  pub info : f.info ≡ i
  pub own_info : f.table.info ≡ i
  pub kept : loaded_at (clustering_order t.columns) t.number shard i bytes ≡ Ok f.table.kept

-- each of these is, in the order in which they are listed
abbrev pub AreLoaded : TableSchema → ℕ → Image → List TableInfo → List (File Held) → Type 0
AreLoaded t shard c [] [] = Unit {0}
AreLoaded t shard c (i ∷ infos) (f ∷ fs) = IsLoaded t shard c i f × AreLoaded t shard c infos fs
AreLoaded t shard c [] (f ∷ fs) = ⊥
AreLoaded t shard c (i ∷ infos) [] = ⊥

-- ---- files that aren't as they must be

-- the listed file of that table and that shard stands in the image under its number, and is as it must be and as it is listed
abbrev pub Loads : TableSchema → ℕ → Image → TableInfo → Type 0
Loads t shard c i = (bytes : List ℕ) × (kept : Loaded) × (c (table_name i.number) ≡ Some bytes)
    × (loaded_at (clustering_order t.columns) t.number shard i bytes ≡ Ok kept)

-- the first field in it that isn't as it must be, or isn't as it is listed, is at that place; it has that number. A file that isn't there reads as one
-- without bytes, and is bad at its beginning.
pub record IsBadListed (t : TableSchema) (shard : ℕ) (c : Image) (i : TableInfo) (number at : ℕ) : Type 0 where
  pub number_is : number ≡ i.number
  pub bad : IsBadAt (loaded_at (clustering_order t.columns) t.number shard i (bytes_of (c (table_name i.number)))) at

-- the first such file of those that are listed; the ones before it are as they must be
pub record IsBadFile (t : TableSchema) (shard : ℕ) (c : Image) (listed : List TableInfo) (number at : ℕ) : Type 0 where
  pub before : List TableInfo
  pub info : TableInfo
  pub behind : List TableInfo
  pub place : listed ≡ before ++ info ∷ behind
  pub others : AllByRecursion (Loads t shard c) before
  pub bad : IsBadListed t shard c info number at
