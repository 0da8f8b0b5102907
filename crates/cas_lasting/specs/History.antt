-- What each line answers, and what it enters into the history of the store.
-- CQL documentation, "Data definition" and "Data manipulation"; numbers, timestamps, moments, what a failed write stops, and the command are own.
use Rattle.std.specs.Prelude.{◌≡◌, ◌≢◌, ◌⊎◌, ℕ, ◌+◌, ◌^◌, ◌<◌, ◌≤◌, ◌==◌, ℤ, pos, ◌*ℤ◌, Bool, true, false}
use Rattle.std.specs.Prelude.{if◌then◌else◌, None, Some, Result, Ok, Err, List, [], ◌∷◌, ◌++◌, length, slice_index_or, slice_set}
use Rattle.std.specs.Int.{int_max, int_min}
use Rattle.std.specs.List.{flat_map}
use Rattle.cas_types.specs.declared.limits.TheConstants.{LAST_MICROSECOND}
use Rattle.cas_types.specs.declared.schema.TableSchema.{TableSchema}
use Rattle.cas_io.specs.Causes.{Rose}
use Rattle.cas_atoms.specs.declared.atom.Mutation.{Mutation}
use Rattle.cas_atoms.specs.declared.query.Query.{Query}
use Rattle.cas_changes.specs.declared.entry.Change.{Change}
use Rattle.cas_changes.specs.declared.entry.Entry.{Entry as ManifestEntry}
use Rattle.cas_changes.specs.declared.entry.Entry.TheVariants.{Schema, AddColumns, Change as change_entry}
use Rattle.cas_changes.specs.Spelling.{entry_bytes}
use Rattle.cas_manifest.specs.Manifests.{room_of}
use Rattle.cas_memtable.specs.Kept.{bytes_of}
use Rattle.cas_journal.specs.Reach.{Reach, GoesOn, IsFull, HasNoPlace}
use Rattle.cas_bind.specs.declared.bound.Bound.{Bound}
use Rattle.cas_bind.specs.declared.bound.Bound.TheVariants as bound
use Rattle.cas_bind.specs.declared.bound.BoundRead.{BoundRead}
use Rattle.cas_bind.specs.declared.bound.Limits.{Limits}
use Rattle.cas_bind.specs.Tables.{tables_after}
use Rattle.cas_effects.specs.declared.effect.BoundWrite.{BoundWrite}
use Rattle.cas_effects.specs.declared.refusal.Refusal.{Refusal}
use Rattle.cas_effects.specs.declared.refusal.TheConstants.{TOO_MANY}
use Rattle.cas_effects.specs.Refusals.{refusal_number}
use Rattle.cas_render.specs.declared.reply.Failure.{Failure}
use Rattle.cas_render.specs.declared.reply.Failure.TheVariants as failure
use Rattle.cas_render.specs.declared.reply.Reply.{Reply}
use Rattle.cas_render.specs.declared.reply.Reply.TheVariants as reply
use Rattle.cas_sstread.specs.Loading.{Held}
use Rattle.cas_stored.specs.Reading.{IsBadFile}
use Rattle.cas_view.specs.Views.{File}
use Rattle.cas_words.specs.declared.words.ClockKind.{ClockKind}
use Rattle.cas_words.specs.declared.words.ClockKind.TheVariants as clock
use Rattle.cas_shard.specs.declared.entry.Entry.{Entry}
use Rattle.cas_shard.specs.declared.entry.Entry.TheVariants as entry
use Rattle.cas_shard.specs.declared.answers.Look.{Look}
use Rattle.cas_shard.specs.Shards.{ShardHistory, found_shard, empty_shard, moment_at, mutation_at, take_refusal, look_at}
use Rattle.cas_shard.specs.Stands.{mutations_of}

-- ---- what the lines so far came to

-- How a store's disk stands: whether a failed write stopped all further ones, how often the folder failed, and how far the numbers of segments and
-- the bytes of the manifest have come; which table files there are, by the shard's number and the table's, and how often a read of one failed; the last
-- number that a table file got, and how many of them are listed.
pub record DiskState : Type 0 where
  pub stopped : Bool
  pub faults : ℕ
  pub reach : Reach
  pub files : ℕ → ℕ → List (File Held)
  pub reads : ℕ
  pub last_file : ℕ
  pub live : ℕ

-- The limits of the store, its tables, its shards, and the seconds that the last `\clock` set; the number of the session that runs the lines, how many
-- mutations were accepted of it, and how many of these were acknowledged by an `ok`; what was written to a table in a shard and stands in no table file yet, by
-- the shard's number and the table's, and how many bytes of records the memtable has that is written to; the changes of table files that the manifest tells, in
-- order, those that were found first; whether segments of the log were dropped until none was left that may go, and nothing was written since; and how the disk
-- stands.
pub record History : Type 0 where
  pub limits : Limits
  pub tables : List TableSchema
  pub shards : List ShardHistory
  pub clock : ℤ
  pub session : ℕ
  pub calls : ℕ
  pub acknowledged : ℕ
  pub unflushed : ℕ → ℕ → List Mutation
  pub filled : ℕ → ℕ → ℕ
  pub changes : List Change
  pub trimmed : Bool
  pub disk : DiskState

-- the change of table files that an entry of the manifest tells, if it tells one
abbrev pub change_told : ManifestEntry → List Change
change_told (change_entry c) = c ∷ []
change_told _ = []

-- the changes of table files that entries of the manifest tell, in order
abbrev pub changes_told : List ManifestEntry → List Change
changes_told entries = flat_map change_told entries

-- the shard of this number; they are numbered from 0
abbrev pub shard_at : History → ℕ → ShardHistory
shard_at h n = slice_index_or h.shards n (found_shard empty_shard)

-- the shard of this number is now this one
abbrev pub with_shard : History → ℕ → ShardHistory → History
with_shard h n s = record h { shards = slice_set h.shards n s }

-- ---- readings

-- a reading in microseconds is put between the start of 1970 and the end of the year 9999: -5 counts as 0
abbrev pub clamped : ℤ → ℤ
clamped raw = int_min (int_max raw (pos 0)) LAST_MICROSECOND

-- a reading of the manual clock is what `\clock` set; one of the system's clock is one that it may give
abbrev pub IsReading : ClockKind → (ℤ → Type 0) → ℤ → ℤ → Type 0
IsReading clock.Manual Gives seconds reading = reading ≡ seconds *ℤ pos 1000000
IsReading clock.System Gives seconds reading = (raw : ℤ) × Gives raw × (reading ≡ clamped raw)

-- ---- the disk

-- the table files are the same, none was read, and none got a number
abbrev pub SameFiles : DiskState → DiskState → Type 0
SameFiles d e = (e.files ≡ d.files) × (e.reads ≡ d.reads) × (e.last_file ≡ d.last_file) × (e.live ≡ d.live)

-- nothing is stopped by it: the folder's count of faults doesn't fall, and at most one segment is begun and named
pub record Stays (d e : DiskState) : Type 0 where
  pub stopped : e.stopped ≡ d.stopped
  pub faults : d.faults ≤ e.faults
  pub reach : GoesOn d.reach e.reach
  pub files : SameFiles d e

-- something was written, which no earlier fault had stopped
abbrev pub Writes : DiskState → DiskState → Type 0
Writes d e = (d.stopped ≡ false) × Stays d e

-- the folder failed, where none had before, and nothing is written any more
pub record Stops (d e : DiskState) : Type 0 where
  pub before : d.stopped ≡ false
  pub stopped : e.stopped ≡ true
  pub faults : d.faults ≤ e.faults
  pub rose : Rose d.faults e.faults
  pub reach : GoesOn d.reach e.reach
  pub files : SameFiles d e

-- how far the files have come with one entry more in the manifest
abbrev pub reach_with : ManifestEntry → Reach → Reach
reach_with x r = record { segment = r.segment; manifest = r.manifest + room_of x }

-- an entry was appended to the manifest
pub record Told (x : ManifestEntry) (d e : DiskState) : Type 0 where
  pub stopped : e.stopped ≡ d.stopped
  pub faults : d.faults ≤ e.faults
  pub reach : e.reach ≡ reach_with x d.reach
  pub files : SameFiles d e

-- nothing was written, since an earlier fault had stopped it
abbrev pub IsStopped : DiskState → DiskState → Type 0
IsStopped d e = (d.stopped ≡ true) × Stays d e

-- ---- a write

-- why a write is refused once it is bound: its record is longer than half a segment, or the shard is full; or no segment can be named any more
abbrev pub IsRefusedFor : ℕ → Mutation → DiskState → DiskState → ℕ → Type 0
IsRefusedFor segment m d e why =
    (take_refusal segment m ≡ Some why) ⊎ ((take_refusal segment m ≡ None) × (d.stopped ≡ false) × (why ≡ TOO_MANY) × IsFull e.reach)

-- A write of this mutation, whose entry is this, is answered so, and takes these entries. With `ok` and its number: the entry, which lasts.
-- Refused, stopped, or where memory runs out: none. Where the disk fails: the entry, which may last or not, or none.
abbrev pub Takes : ℕ → Mutation → Entry → DiskState → Reply → List Entry → DiskState → Type 0
Takes segment m x d (reply.Wrote number) entries e = (take_refusal segment m ≡ None) × (number ≡ m.number) × (entries ≡ x ∷ []) × Writes d e
Takes segment m x d (reply.Refused why) entries e = IsRefusedFor segment m d e why × (entries ≡ []) × Stays d e
Takes segment m x d (reply.Failed failure.Memory) entries e = (entries ≡ []) × Stays d e
Takes segment m x d (reply.Failed failure.Stopped) entries e = (take_refusal segment m ≡ None) × (entries ≡ []) × IsStopped d e
Takes segment m x d (reply.Failed failure.Disk) entries e = (take_refusal segment m ≡ None) × ((entries ≡ []) ⊎ (entries ≡ x ∷ [])) × Stops d e
Takes segment m x d _ entries e = ⊥

-- one mutation more is acknowledged by an `ok` with its number
abbrev pub acknowledges : Reply → ℕ
acknowledges (reply.Wrote number) = 1
acknowledges _ = 0

-- the shard with what was entered at a reading, which raises its moment also where nothing was
abbrev pub after_entries : ℤ → List Entry → ShardHistory → ShardHistory
after_entries reading entries s = record s { entries = s.entries ++ entries; moment = moment_at reading s }

-- what stands in no table file, with these entries of a shard behind it
abbrev pub with_unflushed : ℕ → List Entry → (ℕ → ℕ → List Mutation) → ℕ → ℕ → List Mutation
with_unflushed n entries before k table = if k == n then before k table ++ mutations_of table entries else before k table

-- the bytes of the memtables, with these entries of a shard behind; a record without atoms doesn't count
abbrev pub with_filled : ℕ → List Entry → (ℕ → ℕ → ℕ) → ℕ → ℕ → ℕ
with_filled n entries before k table = if k == n then bytes_of (before k table) (mutations_of table entries) else before k table

-- the history after a write that was answered so entered this at a reading into a shard
abbrev pub after_write : History → ℕ → ℤ → Reply → List Entry → DiskState → History
after_write h n reading r entries e =
    record (with_shard h n (after_entries reading entries (shard_at h n))) {
      calls = h.calls + length entries;
      acknowledged = h.acknowledged + acknowledges r;
      unflushed = with_unflushed n entries h.unflushed;
      filled = with_filled n entries h.filled;
      trimmed = false;
      disk = e;
    }

-- the entry of a mutation: the next write of the session
abbrev pub entry_of : History → Mutation → Entry
entry_of h m = entry.Wrote h.session (h.calls + 1) m

-- a write, at this reading of the clock
abbrev pub WritesAt : History → ℤ → BoundWrite → Reply → History → Type 0
WritesAt h reading w r after =
    (entries : List Entry) × (e : DiskState)
    × Takes h.limits.segment (mutation_at reading (shard_at h w.shard) w) (entry_of h (mutation_at reading (shard_at h w.shard) w)) h.disk r entries e
    × (after ≡ after_write h w.shard reading r entries e)

-- ---- a SELECT

-- memory ran out
abbrev pub is_memory : Failure → Bool
is_memory failure.Memory = true
is_memory _ = false

-- the reply tells that memory ran out: `failed memory`
abbrev pub tells_want : Reply → Bool
tells_want (reply.Failed f) = is_memory f
tells_want _ = false

-- the reply that a look is printed as
abbrev pub rows_reply : ℕ → Look → Reply
rows_reply shard l = reply.Rows l.rows shard l.front l.now

-- Why a query of these files and of memory shows no rows: memory ran out; a read of one of the files failed, which is counted; or in one of them that
-- place is bad for the query, as its partition's head or as a later block. No fault of a write is a reason.
abbrev pub IsWhyNoRows : List (File Held) → Query → ℕ → ℕ → Failure → Type 0
IsWhyNoRows files q before now failure.Memory = Unit {0}
IsWhyNoRows files q before now failure.Read = (files ≢ []) × Rose before now
IsWhyNoRows files q before now (failure.Block number at) = ∥ IsBadFile files q.key q.slice number at ∥₁
IsWhyNoRows files q before now _ = ⊥

-- What a SELECT shows: at the moment, the live view of its partition's mutations up to the front, which is the number of the shard's last one; or why not.
abbrev pub Shows : List (File Held) → ℕ → ℕ → ShardHistory → ℤ → BoundRead → Reply → Type 0
Shows files before now s reading q (reply.Failed f) = IsWhyNoRows files q.query before now f
Shows files before now s reading q r = r ≡ rows_reply q.shard (look_at reading s q.query)

-- the history after a SELECT, which raises the moment of its shard, and by which so many reads of table files had failed
abbrev pub after_read : History → ℕ → ℤ → ℕ → History
after_read h n reading reads = record (with_shard h n (after_entries reading [] (shard_at h n))) { disk = record h.disk { reads = reads } }

-- a SELECT, at this reading of the clock
abbrev pub ReadsAt : History → ℤ → BoundRead → Reply → History → Type 0
ReadsAt h reading q r after =
    (reads : ℕ) × (h.disk.reads ≤ reads) × Shows (h.disk.files q.shard q.query.table) h.disk.reads reads (shard_at h q.shard) reading q r
    × (after ≡ after_read h q.shard reading reads)

-- ---- a definition

-- A definition that the manifest tells of by this entry is answered so, and these are the tables then: after `ok` the entry lasts, and the tables
-- are the new ones; where the disk fails the entry may last or not. It is refused only where the manifest has no place for it, which has less than
-- 4 GiB.
abbrev pub Defines : ManifestEntry → List TableSchema → List TableSchema → DiskState → Reply → List TableSchema → DiskState → Type 0
Defines x old new d reply.Done tables e = (tables ≡ new) × (d.stopped ≡ false) × Told x d e
Defines x old new d (reply.Refused why) tables e = (tables ≡ old) × (why ≡ TOO_MANY) × (length (entry_bytes x) < 2 ^ 32) × HasNoPlace x d.reach × Writes d e
Defines x old new d (reply.Failed failure.Memory) tables e = (tables ≡ old) × Stays d e
Defines x old new d (reply.Failed failure.Stopped) tables e = (tables ≡ old) × IsStopped d e
Defines x old new d (reply.Failed failure.Disk) tables e = (tables ≡ old) × Stops d e
Defines x old new d _ tables e = ⊥

-- CREATE TABLE and ALTER TABLE
abbrev pub Changes : History → ManifestEntry → Bound → Reply → History → Type 0
Changes h x b r after =
    (tables : List TableSchema) × (e : DiskState) × Defines x h.tables (tables_after h.tables b) h.disk r tables e
    × (after ≡ record h { tables = tables; trimmed = false; disk = e })

-- ---- a statement

-- A statement that is to do this, or is refused for this, is answered so; one that is refused changes nothing.
abbrev pub Does : ClockKind → (ℤ → Type 0) → History → Result Bound Refusal → Reply → History → Type 0
Does kind Gives h (Err x) r after = (r ≡ reply.Refused (refusal_number x)) × (after ≡ h)
Does kind Gives h (Ok (bound.Create t)) r after = Changes h (Schema t) (bound.Create t) r after
Does kind Gives h (Ok (bound.Alter a)) r after = Changes h (AddColumns a.table a.columns) (bound.Alter a) r after
Does kind Gives h (Ok (bound.Write w)) r after = (reading : ℤ) × IsReading kind Gives h.clock reading × WritesAt h reading w r after
Does kind Gives h (Ok (bound.Read q)) r after = (reading : ℤ) × IsReading kind Gives h.clock reading × ReadsAt h reading q r after
