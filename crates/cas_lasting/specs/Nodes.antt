-- What a store that is open stands for, and how it goes on (own).
use Rattle.std.specs.Prelude.{◌≡◌, ◌⊎◌, ◌≤◌, ◌<◌, ◌+◌, ◌^◌, ℕ, ℤ, List, [], ◌∷◌, ◌++◌, length, true, false, Option, None, Some, is_some, slice_get, take}
use Rattle.cas_types.specs.declared.schema.TableSchema.{TableSchema}
use Rattle.cas_disk.specs.Disk.{Disk, Image, Leaves}
use Rattle.cas_atoms.specs.declared.atom.Mutation.{Mutation}
use Rattle.cas_bind.specs.declared.bound.Limits.{Limits}
use Rattle.cas_changes.specs.Saying.{frontiers_in, said_by}
use Rattle.cas_changes.specs.declared.entry.Entry.{Entry as ManifestEntry}
use Rattle.cas_replay.specs.Grammar.{AreInOrder, AscendByOne, numbers_of}
use Rattle.cas_journal.specs.declared.journal.Journal.{Journal}
use Rattle.cas_journal.specs.Stores.{MayList, Told}
use Rattle.cas_journal.specs.Reach.{reach_of}
use Rattle.cas_history.specs.declared.item.Item.{Item}
use Rattle.cas_recovery.specs.Openings.{unflushed_of}
use Rattle.cas_recovery.specs.Restored.{IsBehind, RememberAll, RemembersJust}
use Rattle.cas_render.specs.declared.reply.Failure.TheVariants as failure
use Rattle.cas_render.specs.declared.reply.Reply.{Reply}
use Rattle.cas_render.specs.declared.reply.Reply.TheVariants as reply
use Rattle.cas_room.specs.declared.event.Event.{Event}
use Rattle.cas_room.specs.Dropping.{IsTrimmed}
use Rattle.cas_room.specs.Keeping.{Keeps}
use Rattle.cas_room.specs.Rooms.{accepted_in}
use Rattle.cas_shard.specs.declared.entry.ShardOpening.{ShardOpening}
use Rattle.cas_shard.specs.Flushing.{bytes_at}
use Rattle.cas_shard.specs.Stands.{ShardState, Stands, files_at}
use Rattle.cas_sstread.specs.Loading.{Held}
use Rattle.cas_view.specs.Views.{File}
use Rattle.cas_lasting.specs.History.{History, DiskState, changes_told, shard_at}
use Rattle.cas_lasting.specs.Explained.{IsNotAhead, OpensIn, with_more}
use Rattle.cas_lasting.specs.Entered.{AreEntered, IsLeftAmid, ListFiles}

-- What an open store is made of, as one of its sessions has it: its limits, its tables, its shards; the shards of their seats and the last number of
-- each; the clock; the list of all that was accepted; the session, and how often it wrote; how many mutations the room accepted, and how many of them
-- it said are committed; its journal, how often its folder failed, and how often a read of a table file; the last number of a table file that was drawn or
-- listed, and how many the manifest lists; and the frontiers of each table in each shard, table by table, up to which its files have all mutations.
pub record State : Type 0 where
  pub limits : Limits
  pub tables : List TableSchema
  pub shards : List ShardState
  pub places : List ℕ
  pub numbers : List ℕ
  pub clock : ℤ
  pub list : List (Item Event)
  pub session : ℕ
  pub calls : ℕ
  pub accepted : ℕ
  pub committed : ℕ
  pub journal : Journal
  pub faults : ℕ
  pub reads : ℕ
  pub last_file : ℕ
  pub live : ℕ
  pub frontiers : List ℕ

-- how often the session wrote, and the room accepted, can be counted once more
abbrev pub IsFew : State → Type 0
IsFew s = (s.calls + 1 < 2 ^ 64) × (s.accepted + 1 < 2 ^ 64)

-- at most one mutation more was counted, and the last number of a table file doesn't fall
abbrev pub CountsOn : State → State → Type 0
CountsOn s t = (t.calls ≤ s.calls + 1) × (t.accepted ≤ s.accepted + 1) × (s.last_file ≤ t.last_file)

-- the files of a table in a shard, if it is there
abbrev pub files_of : Option ShardState → ℕ → List (File Held)
files_of None table = []
files_of (Some x) table = files_at (slice_get x.stores table)

-- the files of each table in each shard
abbrev pub files_in : List ShardState → ℕ → ℕ → List (File Held)
files_in shards n table = files_of (slice_get shards n) table

-- how its disk stands
abbrev pub disk_of : State → DiskState
disk_of s = record {
  stopped = is_some s.journal.first;
  faults = s.faults;
  reach = reach_of s.journal;
  files = files_in s.shards;
  reads = s.reads;
  last_file = s.last_file;
  live = s.live;
}

-- each shard has in memory of each table just these mutations, by the shard's number and the table's, each of which the table may hold
abbrev pub RememberJust : List TableSchema → (ℕ → ℕ → List Mutation) → List ShardState → Type 0
RememberJust tables mutations shards =
    (n table : ℕ) (x : ShardState) → slice_get shards n ≡ Some x → RemembersJust tables table (mutations n table) x

-- the memtable of each table that is written to in each shard has so many bytes of records, by the shard's number and the table's
abbrev pub AreFilled : (ℕ → ℕ → ℕ) → List ShardState → Type 0
AreFilled filled shards = (n table : ℕ) (x : ShardState) → slice_get shards n ≡ Some x → bytes_at (slice_get x.stores table) ≡ filled n table

-- the bytes of records of a table's memtable that is written to in a shard, if that is there
abbrev pub bytes_in : Option ShardState → ℕ → ℕ
bytes_in None table = 0
bytes_in (Some x) table = bytes_at (slice_get x.stores table)

-- of each in each shard of the store
abbrev pub filled_of : State → ℕ → ℕ → ℕ
filled_of s n table = bytes_in (slice_get s.shards n) table

-- A store's memory stands for a history: each shard's state does, and the entries are those of the list; and in memory is just what stands in no table file,
-- and in the memtables that are written to as many bytes as it says.
pub record StandsFor (h : History) (s : State) : Type 0 where
  pub limits : h.limits ≡ s.limits
  pub tables : h.tables ≡ s.tables
  pub clock : h.clock ≡ s.clock
  pub session : h.session ≡ s.session
  pub calls : h.calls ≡ s.calls
  pub disk : h.disk ≡ disk_of s
  pub count : length h.shards ≡ length s.shards
  pub shards : (n : ℕ) (x : ShardState) → slice_get s.shards n ≡ Some x → Stands h.tables (shard_at h n) x
  pub entered : AreEntered s.list h
  pub memory : RememberJust s.tables h.unflushed s.shards
  pub filled : AreFilled h.filled s.shards

-- the mutations that were found, and then those that were accepted
abbrev pub all_in : List Mutation → State → List Mutation
all_in found s = found ++ accepted_in s.list

-- A store's disk keeps what its history says. What the journal was told are the mutations that were found and then all that was accepted (`Keeps`), by which
-- each shard's next number goes on; the manifest tells of the tables, lists just the table files that there are, by the history's changes, tells the store's
-- frontiers, and is not ahead of memory. Each mutation that was acknowledged was said to be committed, and where no write failed all were. Where the history
-- says that the log is trimmed, no write failed, and no segment may go.
pub record LastsFor (h : History) (found : List Mutation) (s : State) (disk : Disk) (t : Told) : Type 0 where
  pub keeps : Keeps s.journal disk s.list s.committed found t
  pub tables : (said_by t.entries).tables ≡ s.tables
  pub shards : (said_by t.entries).shards ≡ s.limits.shards
  pub few : length t.failed ≤ 1
  pub ordered : AreInOrder (all_in found s)
  pub next : (n : ℕ) (x : ShardState) → slice_get s.shards n ≡ Some x → AscendByOne (numbers_of n (all_in found s) ++ (x.number + 1) ∷ [])
  pub counted : length (accepted_in s.list) ≤ s.accepted
  pub acknowledged : (h.acknowledged ≤ s.committed) × (h.acknowledged ≤ length (accepted_in s.list))
  pub whole : is_some s.journal.first ≡ false → length (accepted_in s.list) ≤ s.committed
  pub behind : IsBehind (said_by t.entries) s.shards s.last_file s.live
  pub files : ListFiles (said_by t.entries) (files_in s.shards)
  pub changes : changes_told t.entries ≡ h.changes
  pub frontiers : s.frontiers ≡ frontiers_in (said_by t.entries)
  pub trimmed : h.trimmed ≡ true → (is_some s.journal.first ≡ false) × IsTrimmed (said_by t.entries) (all_in found s)

-- What a crash may leave of a store explains to the next run what its shards have been, which were so before this one. No shard's history is behind that with
-- all that was accepted; in whatever a crash leaves, whichever of the entries that were told the manifest has, each shard may have been just that, with a front
-- of what was accepted that lacks no more than what wasn't committed; and in memory is just what was written above the frontiers.
pub record Explains (openings : ℕ → ShardOpening) (h : History) (found : List Mutation) (s : State) (disk : Disk) (t : Told) : Type 0 where
  pub behind : (n : ℕ) → n < length h.shards → IsNotAhead (shard_at h n) (with_more n (accepted_in s.list) (openings n))
  pub opens : (i : Image) → disk.may_leave i → (entries : List ManifestEntry) → MayList t entries → (count : ℕ)
      → t.committed + length (accepted_in s.list) ≤ length t.taken + count → count ≤ length (accepted_in s.list) → (n : ℕ)
      → n < (said_by entries).shards → OpensIn found (take count (accepted_in s.list)) entries i n (openings n)
  pub memory : RememberAll s.tables (unflushed_of (said_by t.entries) (all_in found s)) s.shards

-- From one history to another the store went on: its memory stands for the other, its disk keeps what that says, and what a crash may leave explains it, where
-- that explained the one before.
pub record GoesOnTo (h after : History) (s t : State) (old new : Disk) : Type 0 where
  pub stands : StandsFor after t
  pub lasts : (found : List Mutation) (told : Told) → LastsFor h found s old told → (now : Told) × LastsFor after found t new now
      × ((openings : ℕ → ShardOpening) → Explains openings h found s old told → Explains openings after found t new now)

-- it stands for some history, and its disk keeps what that says
abbrev pub LastsForOne : State → Disk → Type 0
LastsForOne s disk = (h : History) × (found : List Mutation) × (told : Told) × StandsFor h s × LastsFor h found s disk told

-- whichever history it stood for, it went on to one that follows it so
abbrev pub Moves : (History → History → Type 0) → State → State → Disk → Disk → Type 0
Moves Follows s t old new = (h : History) → StandsFor h s → (after : History) × Follows h after × GoesOnTo h after s t old new

-- whatever a crash leaves while the call is under way has all that was acknowledged before it
abbrev pub KeepsAll : State → State → Disk → Disk → Type 0
KeepsAll s t old new =
    (h : History) (found : List Mutation) (told : Told) → StandsFor h s → LastsFor h found s old told → Leaves (IsLeftAmid found t.list h) old new

-- memory ran out before anything changed, or this follows
abbrev pub OrWant : Reply → (History → History → Type 0) → History → History → Type 0
OrWant r Follows h after = ((r ≡ reply.Failed failure.Memory) × (after ≡ h)) ⊎ Follows h after
