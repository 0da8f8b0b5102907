-- How a store goes on amid a flush of a table in a shard (own).
use Rattle.std.specs.Prelude.{◌≡◌, ◌⊎◌, ℕ, ◌+◌, ◌*◌, ◌≤◌, ◌<◌, false, Option, Some, Result, Err, MatchResult, List, [], ◌∷◌, length, slice_get, slice_set}
use Rattle.std.specs.Int.{int_max}
use Rattle.cas_types.specs.Limits.{IsMoment}
use Rattle.cas_types.specs.declared.limits.TheConstants.{MUTATION_LIMIT}
use Rattle.cas_types.specs.declared.schema.TableSchema.{TableSchema}
use Rattle.cas_disk.specs.Disk.{Disk, During, Image, Leaves}
use Rattle.cas_atoms.specs.declared.atom.Mutation.{Mutation}
use Rattle.cas_changes.specs.Allowed.{FitsEntry, IsDrawn}
use Rattle.cas_changes.specs.Saying.{said_by}
use Rattle.cas_changes.specs.declared.entry.Change.{Change}
use Rattle.cas_changes.specs.declared.entry.Entry.TheVariants.{Change as change_entry}
use Rattle.cas_changes.specs.declared.said.TheConstants.{FIRST_DRAWN}
use Rattle.cas_flush.specs.Flushed.{FlushFault}
use Rattle.cas_flushing.specs.Flushed.{head_of}
use Rattle.cas_flushing.specs.Laws.{SayTheSame}
use Rattle.cas_info.specs.Allowed.{FitsInfo}
use Rattle.cas_info.specs.declared.info.TableInfo.{TableInfo}
use Rattle.cas_listed.specs.Listed.{StandIn}
use Rattle.cas_journal.specs.Ends.{Ends}
use Rattle.cas_journal.specs.Reach.{IsOver, reach_of, reach_after}
use Rattle.cas_journal.specs.Stores.{Told, Holds, SameTables, appended, committed_all}
use Rattle.cas_journal.specs.declared.fault.Counted.{Counted}
use Rattle.cas_journal.specs.declared.fault.JournalFault.{JournalFault}
use Rattle.cas_journal.specs.declared.fault.JournalFault.TheVariants.{TooMany}
use Rattle.cas_memtable.specs.Kept.{HoldJust}
use Rattle.cas_memtable.specs.declared.memtable.MemPart.{MemPart}
use Rattle.cas_room.specs.Changing.{MayBeTold, StandsAmid}
use Rattle.cas_room.specs.Keeping.{Keeps}
use Rattle.cas_room.specs.Tables.{IsFull}
use Rattle.cas_room.specs.Rooms.{accepted_in}
use Rattle.cas_shard.specs.Flushing.{HasInMemory, frozen_at, memtables_at}
use Rattle.cas_shard.specs.declared.entry.ShardOpening.{ShardOpening}
use Rattle.cas_shard.specs.Shards.{ShardHistory}
use Rattle.cas_shard.specs.Stands.{KeepsFiles, ShardState, Stands}
use Rattle.cas_sstwrite.specs.declared.fault.WriteFault.{WriteFault}
use Rattle.cas_sstwrite.specs.declared.fault.WriteFault.TheVariants as write
use Rattle.cas_stored.specs.Stored.{StoredTable}
use Rattle.cas_lasting.specs.History.{History}
use Rattle.cas_lasting.specs.Entered.{IsLeftAmid}
use Rattle.cas_lasting.specs.Listing.{SameUpTo}
use Rattle.cas_lasting.specs.Nodes.{Explains, State, StandsFor, LastsFor, disk_of, filled_of}

-- ---- shards

-- a shard goes on as what it was: it has its number and its files, stands for what it stood for, and has in memory what it had
pub record GoesOnAs (x y : ShardState) : Type 0 where
  pub number : y.number ≡ x.number
  pub files : KeepsFiles x y
  pub stands : (tables : List TableSchema) (s : ShardHistory) → Stands tables s x → Stands tables s y
  pub memory : (tables : List TableSchema) (n : ℕ) (ws : List Mutation) → HasInMemory tables n ws x → HasInMemory tables n ws y

-- so does each shard
pub record AllGoOn (xs ys : List ShardState) : Type 0 where
  pub count : length ys ≡ length xs
  pub each : (n : ℕ) (y : ShardState) → slice_get ys n ≡ Some y → (x : ShardState) × (slice_get xs n ≡ Some x) × GoesOnAs x y

-- each shard has the last number that it had
abbrev pub SameNumbers : List ShardState → List ShardState → Type 0
SameNumbers xs ys = (n : ℕ) (y : ShardState) → slice_get ys n ≡ Some y → (x : ShardState) × (slice_get xs n ≡ Some x) × (y.number ≡ x.number)

-- ---- steps before the manifest gets the change

-- Nothing is told to the journal, and no memtable is let go of: what else changes is of table files that no manifest lists.
pub record Quiet (s t : State) (d e : Disk) : Type 0 where
  pub limits : t.limits ≡ s.limits
  pub tables : t.tables ≡ s.tables
  pub clock : t.clock ≡ s.clock
  pub list : t.list ≡ s.list
  pub session : t.session ≡ s.session
  pub calls : t.calls ≡ s.calls
  pub accepted : t.accepted ≡ s.accepted
  pub committed : t.committed ≡ s.committed
  pub journal : t.journal ≡ s.journal
  pub live : t.live ≡ s.live
  pub frontiers : t.frontiers ≡ s.frontiers
  pub shards : AllGoOn s.shards t.shards
  pub last : s.last_file ≤ t.last_file
  pub faults : s.faults ≤ t.faults
  pub reads : s.reads ≤ t.reads
  pub keeps : (found : List Mutation) (told : Told) → Keeps s.journal d s.list s.committed found told → Keeps t.journal e t.list t.committed found told
  pub crash : (found : List Mutation) (told : Told) → Keeps s.journal d s.list s.committed found told → Leaves (λ c. Holds told c) d e
  pub tells : (c : Image) → d.reads c → (b : Image) × e.reads b

-- ---- the manifest gets the change

-- The manifest gets the entry of a change, once all is committed, or it fails.
pub record Lists {T : Type 0} (c : Change) (result : Result T JournalFault) (s t : State) (d e : Disk) : Type 0 where
  pub limits : t.limits ≡ s.limits
  pub tables : t.tables ≡ s.tables
  pub shards : t.shards ≡ s.shards
  pub clock : t.clock ≡ s.clock
  pub list : t.list ≡ s.list
  pub session : t.session ≡ s.session
  pub calls : t.calls ≡ s.calls
  pub accepted : t.accepted ≡ s.accepted
  pub rises : s.committed ≤ t.committed
  pub last : t.last_file ≡ s.last_file
  pub reads : t.reads ≡ s.reads
  pub faults : s.faults ≤ t.faults
  pub live : MatchResult result (λ x. t.live ≡ s.live + 1) (λ f. t.live ≡ s.live)
  pub frontiers : MatchResult result (λ x. t.frontiers ≡ slice_set s.frontiers (c.table * s.limits.shards + c.shard) c.frontier)
      (λ f. t.frontiers ≡ s.frontiers)
  pub all : MatchResult result (λ x. t.committed ≡ s.accepted) (λ f. Unit {0})
  pub keeps : (found : List Mutation) (told : Told) → Keeps s.journal d s.list s.committed found told → FitsEntry (said_by told.entries) (change_entry c)
      → MatchResult result (λ x. Keeps t.journal e t.list t.committed found (appended (change_entry c) (committed_all told)))
      (λ f. (u : Told) × MayBeTold f (change_entry c) told u × Keeps t.journal e t.list t.committed found u)
  pub front : (found : List Mutation) (told : Told) → Keeps s.journal d s.list s.committed found told → FitsEntry (said_by told.entries) (change_entry c)
      → Leaves (λ i. StandsAmid told (change_entry c) found (accepted_in s.list) s.committed i) d e
  pub during : During SameTables d e
  pub outcome : Ends s.journal.first t.journal.first s.faults t.faults result
  pub full : (what : Counted) (most : ℕ) → result ≡ Err (TooMany what most) → IsOver what (change_entry c) s.journal
  pub reach : reach_of t.journal ≡ reach_after result (change_entry c) (reach_of s.journal)
  pub tells : (i : Image) → d.reads i → (b : Image) × e.reads b

-- ---- the new file

-- the writer's fault is that of too much, not of the disk or of memory
abbrev pub IsOfSize : WriteFault → Type 0
IsOfSize write.Failed = ⊥
IsOfSize write.Order = ⊥
IsOfSize (write.TooMany what limit) = Unit {0}
IsOfSize write.Unfit = Unit {0}
IsOfSize write.Mem = ⊥

-- memtables of a table hold too much for one file in that shard
abbrev pub HoldTooMuch : TableSchema → ℕ → List MemPart → Type 0
HoldTooMuch t shard ms = (number : ℕ) × (e : WriteFault) × IsOfSize e × FlushFault t.columns (head_of t shard number) ms e

-- no file can be begun, or the memtables hold too much for one
abbrev pub WhyNoFile : TableSchema → ℕ → ℕ → ℕ → List MemPart → Type 0
WhyNoFile t shard live last ms = IsFull live last ⊎ HoldTooMuch t shard ms

-- ---- the change

-- the change that lists the file of a flush, of which this is told, of a table in that shard
pub record IsChangeFor (table place : ℕ) (told : TableInfo) (x : ShardState) (c : Change) : Type 0 where
  pub of_table : c.table ≡ table
  pub of_shard : c.shard ≡ place
  pub moment : (c.moment ≡ x.moment) × IsMoment c.moment
  pub frontier : (c.frontier ≡ x.number) × (c.frontier ≤ MUTATION_LIMIT)
  pub drawn : (c.drawn ≡ int_max x.drawn FIRST_DRAWN) × IsDrawn c.drawn
  pub removed : c.removed ≡ []
  pub added : c.added ≡ told ∷ []

-- the change adds the file of that number, which may be told, to a table of the store in that shard
pub record AddsFile (tables : List TableSchema) (shards : List ShardState) (place number : ℕ) (c : Change) : Type 0 where
  pub told : TableInfo
  pub x : ShardState
  pub there : slice_get shards place ≡ Some x
  pub is : IsChangeFor c.table place told x c
  pub table : c.table < length tables
  pub fits : FitsInfo told
  pub numbered : told.number ≡ number

-- All but the disk is as it was, and its counts don't fall; a folder that tells what it reads goes on telling it. Of table files only those above the last
-- number change, at each moment.
pub record IsBeside (s u : State) (d e : Disk) : Type 0 where
  pub limits : u.limits ≡ s.limits
  pub tables : u.tables ≡ s.tables
  pub list : u.list ≡ s.list
  pub calls : u.calls ≡ s.calls
  pub accepted : u.accepted ≡ s.accepted
  pub count : length u.shards ≡ length s.shards
  pub numbers : SameNumbers s.shards u.shards
  pub last : s.last_file ≤ u.last_file
  pub faults : s.faults ≤ u.faults
  pub reads : s.reads ≤ u.reads
  pub during : During (SameUpTo s.last_file) d e
  pub tells : (c : Image) → d.reads c → (b : Image) × e.reads b

-- memory stands for the history, however that says that the disk stands, and how full memtables are
abbrev pub AreStood : History → State → Type 0
AreStood h s = StandsFor (record h { filled = filled_of s; disk = disk_of s }) s

-- In whatever a crash leaves stands the file of which that is told; mutations that say what the frozen memtables do stand in it.
abbrev pub StandsSo : TableSchema → ℕ → TableInfo → Option StoredTable → Disk → Type 0
StandsSo t n told o disk =
    (ws : List Mutation) → HoldJust t.columns (memtables_at o) ws → (i : Image) → disk.may_leave i
    → (vs : List Mutation) × StandIn t n i told vs × SayTheSame t.columns (frozen_at o) vs

-- Its disk keeps what it kept, with these changes told, and a crash in between leaves what it must; and under this condition what a crash may leave explains
-- it, where that explained the history before.
abbrev pub GoesOn : Type 0 → History → List Change → List Mutation → Told → State → State → Disk → Disk → Type 0
GoesOn Left h changes found told s u d e =
    ((now : Told) × LastsFor (record h { changes = changes; trimmed = false }) found u e now
    × (Left → AreStood h s → (openings : ℕ → ShardOpening) → Explains openings h found s d told → Explains openings h found u e now))
    × Leaves (IsLeftAmid found s.list h) d e
