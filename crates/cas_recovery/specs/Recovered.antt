-- What a store is that was read back into memory, with its table files (own).
use Rattle.std.specs.Prelude.{◌≡◌, ◌⊎◌, ◌<◌, ◌≤◌, ℕ, List, length, slice_get, Some}
use Rattle.cas_types.specs.declared.schema.TableSchema.{TableSchema}
use Rattle.cas_disk.specs.Disk.{Disk, Image}
use Rattle.cas_disk.specs.declared.name.Name.{Name}
use Rattle.cas_disk.specs.declared.name.Name.TheVariants.{Table as table_name}
use Rattle.cas_atoms.specs.declared.atom.Mutation.{Mutation}
use Rattle.cas_bind.specs.Tables.{AreTables}
use Rattle.cas_bind.specs.declared.bound.Limits.{Limits}
use Rattle.cas_changes.specs.Saying.{frontiers_in, part_of, said_by}
use Rattle.cas_changes.specs.declared.entry.Entry.{Entry as ManifestEntry}
use Rattle.cas_journal.specs.Stores.{Told}
use Rattle.cas_journal.specs.Journals.{Lasts}
use Rattle.cas_journal.specs.declared.journal.Journal.{Journal}
use Rattle.cas_opening.specs.Opening.{IsOfBytes, IsRefused, OpensAs, next_segment}
use Rattle.cas_listed.specs.Listed.{AreLoaded, IsBadFile}
use Rattle.cas_shard.specs.declared.entry.ShardOpening.{ShardOpening}
use Rattle.cas_shard.specs.Shards.{found_shard}
use Rattle.cas_shard.specs.Stands.{ShardState, Stands, files_at}
use Rattle.cas_recovery.specs.Found.{IsFound}
use Rattle.cas_recovery.specs.Openings.{MayHaveBeen, unflushed_of}
use Rattle.cas_recovery.specs.Restored.{AreFilledBy, AreListed, HaveNoMore, IsBehind, IsTold, RememberAll, greatest_of}

-- The store of a folder was read back: its limits and tables are what the manifest's entries say, each shard stands for whatever it may have been before,
-- its tables have the files that are listed, in memory are just the log's mutations above the frontiers, and its journal goes on behind the log's, which
-- last. The memtables that are written to have the bytes of these mutations. The last number of a table file is the greatest under which one was ever
-- listed, and so many are live as are listed; the frontiers are those that the entries tell.
pub record IsRecovered (given limits : Limits) (tables : List TableSchema) (shards : List ShardState) (frontiers : List ℕ) (last live : ℕ)
    (journal : Journal) (old new : Disk) : Type 0 where
  pub entries : List ManifestEntry
  pub mutations : List Mutation
  pub found : IsFound given.shards old entries mutations
  pub same : limits ≡ record given { shards = (said_by entries).shards }
  pub tables_are : tables ≡ (said_by entries).tables
  pub good : AreTables tables
  pub count : length shards ≡ limits.shards
  pub stands : (n : ℕ) (x : ShardState) (o : ShardOpening) → slice_get shards n ≡ Some x → MayHaveBeen (said_by entries) mutations old n o
      → Stands tables (found_shard o) x
  pub listed : AreListed entries tables shards
  pub loaded : (c : Image) → old.reads c → IsOfBytes c → (n : ℕ) (x : ShardState) → slice_get shards n ≡ Some x → (table : ℕ) (t : TableSchema)
      → slice_get tables table ≡ Some t
      → (d : Image) × old.may_leave d × AreLoaded t n d (part_of (said_by entries) table n).listed (files_at (slice_get x.stores table))
  pub no_more : HaveNoMore tables shards
  pub memory : RememberAll tables (unflushed_of (said_by entries) mutations) shards
  pub frontiers_are : frontiers ≡ frontiers_in (said_by entries)
  pub last_is : last ≡ greatest_of (said_by entries).numbers
  pub behind : IsBehind (said_by entries) shards last live
  pub segment : journal.last_segment ≤ next_segment entries
  pub lasts : (c : Image) → old.reads c → IsOfBytes c → (t : Told) × IsTold entries mutations t × Lasts journal new t
  pub filled : AreFilledBy (unflushed_of (said_by entries) mutations) shards

-- A listed table file of these entries, as a crash may leave it, isn't loaded, for what stands at this place.
pub record IsBadTable (entries : List ManifestEntry) (folder : Disk) (name : Name) (at : ℕ) : Type 0 where
  pub number : ℕ
  pub name_is : name ≡ table_name number
  pub table : ℕ
  pub schema : TableSchema
  pub there : slice_get (said_by entries).tables table ≡ Some schema
  pub shard : ℕ
  pub within : shard < (said_by entries).shards
  pub image : Image
  pub left : folder.may_leave image
  pub bad : IsBadFile schema shard image (part_of (said_by entries) table shard).listed number at

-- Why a folder isn't read back: the bytes of the manifest or of a segment aren't as they must be at this place, or those of a listed table file.
abbrev pub IsUnreadable : ℕ → Disk → Name → ℕ → Image → Type 0
IsUnreadable shards folder name at c =
    IsRefused name at c
    ⊎ ((entries : List ManifestEntry) × (mutations : List Mutation) × OpensAs shards entries mutations c × IsBadTable entries folder name at)
