-- How an open store begins (own).
use Rattle.std.specs.Prelude.{◌≡◌, ◌⊎◌, ◌<◌, ◌≤◌, ◌+◌, ℕ, List, [], ◌∷◌, ◌++◌, length, pos, false, map, slice_get, Some}
use Rattle.cas_disk.specs.Disk.{Disk, Image}
use Rattle.cas_types.specs.declared.schema.TableSchema.{TableSchema}
use Rattle.cas_atoms.specs.declared.atom.Mutation.{Mutation}
use Rattle.cas_bind.specs.declared.bound.Limits.{Limits}
use Rattle.cas_changes.specs.Saying.{frontiers_in, part_of, said_by}
use Rattle.cas_changes.specs.declared.entry.Entry.{Entry as ManifestEntry}
use Rattle.cas_replay.specs.Grammar.{AreInOrder, AscendByOne, numbers_of}
use Rattle.cas_journal.specs.Stores.{Told}
use Rattle.cas_journal.specs.Journals.{Lasts}
use Rattle.cas_journal.specs.declared.journal.Journal.{Journal}
use Rattle.cas_opening.specs.Opening.{IsOfBytes, next_segment}
use Rattle.cas_sstread.specs.Loading.{Held}
use Rattle.cas_view.specs.Views.{File}
use Rattle.cas_listed.specs.Listed.{AreLoaded}
use Rattle.cas_shard.specs.declared.entry.ShardOpening.{ShardOpening}
use Rattle.cas_shard.specs.Stands.{ShardState, Stands, mutations_of}
use Rattle.cas_shard.specs.Shards.{found_shard}
use Rattle.cas_lasting.specs.Entered.{ListFiles}
use Rattle.cas_lasting.specs.Explained.{only}
use Rattle.cas_lasting.specs.Nodes.{Explains, State, StandsFor, LastsFor, disk_of, files_in}
use Rattle.cas_history.specs.Hands.{numbers}
use Rattle.cas_lasting.specs.History.{History, DiskState, changes_told}
use Rattle.cas_memtable.specs.Kept.{bytes_of}
use Rattle.cas_recovery.specs.Found.{found_in}
use Rattle.cas_recovery.specs.Openings.{AreOpenings, IsOpening, unflushed_of}
use Rattle.cas_recovery.specs.Recovered.{IsRecovered}
use Rattle.cas_recovery.specs.Restored.{AreFilledBy, IsBehind, IsTold, RememberAll, greatest_of}

-- what the log has of a table in a shard that stands in no table file
abbrev pub unflushed_in : List ManifestEntry → List Mutation → ℕ → ℕ → List Mutation
unflushed_in entries mutations n table = mutations_of table (found_in n (unflushed_of (said_by entries) mutations)).entries

-- the bytes of its records, which are read back into the memtable that is written to
abbrev pub filled_in : List ManifestEntry → List Mutation → ℕ → ℕ → ℕ
filled_in entries mutations n table = bytes_of 0 (unflushed_in entries mutations n table)

-- The history before the first line: the tables that the manifest tells of, as many shards as it says, and of each shard what it was before the run; of the
-- log's mutations those that stand in no table file, and the changes of table files that the manifest tells; the clock at 0.
unfoldable pub start : Limits → List ManifestEntry → List Mutation → (ℕ → ShardOpening) → ℕ → DiskState → History
start l entries mutations openings session disk = record {
  limits = record l { shards = (said_by entries).shards };
  tables = (said_by entries).tables;
  shards = map (λ n. found_shard (openings n)) (numbers 0 (said_by entries).shards);
  clock = pos 0;
  session = session;
  calls = 0;
  acknowledged = 0;
  unflushed = unflushed_in entries mutations;
  filled = filled_in entries mutations;
  changes = changes_told entries;
  trimmed = false;
  disk = disk;
}

-- The table files, by shard and table, are those that the entries list, in their order; and where the folder tells what it reads, as what some image has
-- of them that a crash may leave. Where no shard or no table is, no file is.
pub record AreItsFiles (entries : List ManifestEntry) (folder : Disk) (files : ℕ → ℕ → List (File Held)) : Type 0 where
  pub listed : (shard table : ℕ) (t : TableSchema) → shard < (said_by entries).shards → slice_get (said_by entries).tables table ≡ Some t
      → map (λ f. f.info) (files shard table) ≡ (part_of (said_by entries) table shard).listed
  pub loaded : (c : Image) → folder.reads c → IsOfBytes c → (shard table : ℕ) (t : TableSchema) → shard < (said_by entries).shards
      → slice_get (said_by entries).tables table ≡ Some t
      → (d : Image) × folder.may_leave d × AreLoaded t shard d (part_of (said_by entries) table shard).listed (files shard table)
  pub no_more : (shard table : ℕ) → ((said_by entries).shards ≤ shard) ⊎ (length (said_by entries).tables ≤ table) → files shard table ≡ []

-- The limits, tables and shards of a store of these entries, with these mutations in its log: each shard stands for what it was, and its next number goes
-- on behind the log's. The entries list just its table files, and are not ahead of it; the last number of a file is the greatest that was ever listed; and in
-- memory is just what the log has above the frontiers.
pub record IsInMemory (given : Limits) (entries : List ManifestEntry) (mutations : List Mutation) (openings : ℕ → ShardOpening) (limits : Limits)
    (tables : List TableSchema) (shards : List ShardState) (frontiers : List ℕ) (last live : ℕ) : Type 0 where
  pub same : limits ≡ record given { shards = (said_by entries).shards }
  pub tables_are : tables ≡ (said_by entries).tables
  pub count : length shards ≡ limits.shards
  pub stands : (n : ℕ) (x : ShardState) → slice_get shards n ≡ Some x → Stands tables (found_shard (openings n)) x
  pub ordered : AreInOrder mutations
  pub next : (n : ℕ) (x : ShardState) → slice_get shards n ≡ Some x → AscendByOne (numbers_of n mutations ++ (x.number + 1) ∷ [])
  pub behind : IsBehind (said_by entries) shards last live
  pub frontiers_are : frontiers ≡ frontiers_in (said_by entries)
  pub last_is : last ≡ greatest_of (said_by entries).numbers
  pub files : ListFiles (said_by entries) (files_in shards)
  pub memory : RememberAll tables (unflushed_of (said_by entries) mutations) shards
  pub filled : AreFilledBy (unflushed_of (said_by entries) mutations) shards

-- The store of a folder was opened: it was read back with its files; and whatever its shards may have been before, for all that is known of the folder,
-- memory has them so.
pub record IsStarted (given limits : Limits) (tables : List TableSchema) (shards : List ShardState) (frontiers : List ℕ) (last live : ℕ)
    (journal : Journal) (old new : Disk) : Type 0 where
  pub back : IsRecovered given limits tables shards frontiers last live journal old new
  pub memory : (openings : ℕ → ShardOpening) → AreOpenings back.entries back.mutations old openings
      → IsInMemory given back.entries back.mutations openings limits tables shards frontiers last live
  pub files : AreItsFiles back.entries old (files_in shards)

-- A run with these limits and these table files begins so: nothing is stopped, and at most one segment was begun since the entries were written; as many
-- table files are listed as the entries list, and the last number of one is the greatest that was ever listed.
pub record Begins (l : Limits) (entries : List ManifestEntry) (mutations : List Mutation) (openings : ℕ → ShardOpening) (files : ℕ → ℕ → List (File Held))
    (before : ℕ) (h : History) : Type 0 where
  pub session : ℕ
  pub disk : DiskState
  pub history : h ≡ start l entries mutations openings session disk
  pub going : disk.stopped ≡ false
  pub faults : before ≤ disk.faults
  pub segment : disk.reach.segment ≤ next_segment entries
  pub files_are : disk.files ≡ files
  pub last_file : disk.last_file ≡ greatest_of (said_by entries).numbers
  pub live : disk.live ≡ (said_by entries).listed

-- The store is as it was opened, in a new history: it accepted nothing.
pub record IsOpenedAs (l : Limits) (tables : List TableSchema) (shards : List ShardState) (journal : Journal) (faults reads : ℕ) (s : State) : Type 0 where
  pub limits_are : s.limits ≡ l
  pub tables_are : s.tables ≡ tables
  pub shards_are : s.shards ≡ shards
  pub journal_is : s.journal ≡ journal
  pub faults_are : s.faults ≡ faults
  pub reads_are : s.reads ≡ reads
  pub accepted : s.accepted ≡ 0

-- in whatever a crash leaves of the folder the shards may have been so before the run
abbrev pub AreExplained : List ManifestEntry → List Mutation → (ℕ → ShardOpening) → Disk → Type 0
AreExplained entries mutations openings disk =
    (i : Image) → disk.may_leave i → (n : ℕ) → n < (said_by entries).shards → IsOpening (said_by entries) mutations (only i) n (openings n)

-- The store stands for the history that begins with these entries and openings, and its disk keeps what was told of the entries and the log's mutations; its
-- table files are counted and numbered by the entries; and what a crash may leave explains the history, where it explains the openings.
pub record BeginsAs (given : Limits) (entries : List ManifestEntry) (mutations : List Mutation) (openings : ℕ → ShardOpening) (disk : Disk)
    (s : State) : Type 0 where
  pub stands : StandsFor (start given entries mutations openings s.session (disk_of s)) s
  pub lasts : (t : Told) → IsTold entries mutations t → Lasts s.journal disk t
      → LastsFor (start given entries mutations openings s.session (disk_of s)) mutations s disk t
  pub explains : (t : Told) → IsTold entries mutations t → AreExplained entries mutations openings disk
      → Explains openings (start given entries mutations openings s.session (disk_of s)) mutations s disk t
  pub counts : (s.last_file ≡ greatest_of (said_by entries).numbers) × (s.live ≡ (said_by entries).listed)
