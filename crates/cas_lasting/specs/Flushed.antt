-- What a flush leaves, in the words of the history: one table file more in each shard, and what stands in none then.
-- Cassandra documentation, "nodetool flush"; "Storage engine: memtables, SSTables"; the numbers of files and of faults are own.
use Rattle.std.specs.Prelude.{◌≡◌, ◌⊎◌, ℕ, ◌+◌, ◌≤◌, ◌<◌, ◌==◌, ◌&&◌, nat_lt, if◌then◌else◌, true, false, Option, None, Some, is_some, Bool}
use Rattle.std.specs.Prelude.{List, [], ◌∷◌, ◌++◌, length, slice_index_or}
use Rattle.std.specs.List.{flat_map, fold}
use Rattle.std.specs.Int.{int_max}
use Rattle.cas_types.specs.declared.schema.TableSchema.{TableSchema}
use Rattle.cas_bounds.specs.ClusteringOrder.{clustering_order}
use Rattle.cas_bounds.specs.declared.order.Ordered.{Ordered}
use Rattle.cas_atoms.specs.declared.atom.Mutation.{Mutation}
use Rattle.cas_changes.specs.declared.entry.Change.{Change}
use Rattle.cas_changes.specs.declared.said.TheConstants.{FIRST_DRAWN}
use Rattle.cas_changes.specs.declared.entry.Entry.TheVariants.{Change as change_entry}
use Rattle.cas_info.specs.Allowed.{FitsInfo}
use Rattle.cas_journal.specs.Reach.{Reach, HasNoPlace}
use Rattle.cas_memtable.specs.Kept.{all_of, atoms_under}
use Rattle.cas_room.specs.Changing.{added_by}
use Rattle.cas_room.specs.Tables.{IsFull}
use Rattle.cas_shard.specs.Shards.{ShardHistory, all_entries, drawn_of, number_of}
use Rattle.cas_shard.specs.Stands.{SaySame, mutations_of}
use Rattle.cas_sstread.specs.Loading.{Held}
use Rattle.cas_stored.specs.Stored.{HoldEach}
use Rattle.cas_streams.specs.Streams.{IsThere}
use Rattle.cas_view.specs.Views.{File}
use Rattle.cas_lasting.specs.History.{History, DiskState, reach_with, shard_at}
use Rattle.cas_lasting.specs.TooMuch.{IsOverfull}

-- ---- one shard

-- The change by which the manifest lists the file of a flush, of a table in a shard of this number: it takes no file away, adds this one, and tells that the
-- table's files hold the shard's mutations up to its last; and the shard's moment, and the last timestamp that it drew.
pub record ListsOne (table shard : ℕ) (s : ShardHistory) (f : File Held) (c : Change) : Type 0 where
  pub of_table : c.table ≡ table
  pub of_shard : c.shard ≡ shard
  pub frontier : c.frontier ≡ number_of s
  pub moment : c.moment ≡ s.moment
  pub drawn : c.drawn ≡ int_max (drawn_of s) FIRST_DRAWN
  pub removed : c.removed ≡ []
  pub added : c.added ≡ f.info ∷ []

-- a table's files in a shard are those that it had, where nothing was listed; or, by such a change, those and one more behind them
abbrev pub Grows : ℕ → ℕ → ShardHistory → Option Change → List (File Held) → List (File Held) → Type 0
Grows table shard s None before after = after ≡ before
Grows table shard s (Some c) before after = (f : File Held) × (after ≡ before ++ f ∷ []) × ListsOne table shard s f c

-- in the files stand, file by file, mutations that say the same as these, and no more
pub record AreInFiles (order : List Ordered) (files : List (File Held)) (ws : List Mutation) : Type 0 where
  pub places : List (List Mutation)
  pub stand : HoldEach order files [] places
  pub says : SaySame (all_of places) ws

-- the mutations say something: an atom of one of them stands under a key, which may be a range that covers no row
abbrev pub SaySomething : List Mutation → Type 0
SaySomething ws = (key : List ℕ) × IsThere (atoms_under key ws)

-- ---- the shards, one after another

-- the numbers of the files that a change adds, if there is one
abbrev pub numbers_in : Option Change → List ℕ
numbers_in None = []
numbers_in (Some c) = added_by c

-- the numbers of the files that changes add, in the order of the shards
abbrev pub numbers_added : List (Option Change) → List ℕ
numbers_added changes = flat_map numbers_in changes

-- the change of the shard of that number, if there is one
abbrev pub change_of : List (Option Change) → ℕ → Option Change
change_of changes n = slice_index_or changes n None

-- how far the files have come with a change, if there is one
abbrev pub reach_by : Reach → Option Change → Reach
reach_by r None = r
reach_by r (Some c) = reach_with (change_entry c) r

-- the changes that the manifest tells with one more, if there is one
abbrev pub changes_by : List Change → Option Change → List Change
changes_by before None = before
changes_by before (Some c) = before ++ c ∷ []

-- what stands in no table file, where these changes were told of the table, one of each shard: nothing of it in a shard with a change, all else as before
abbrev pub without_flushed : ℕ → List (Option Change) → (ℕ → ℕ → List Mutation) → ℕ → ℕ → List Mutation
without_flushed table changes before n k = if (k == table) && is_some (change_of changes n) then [] else before n k

-- the bytes of the memtables that are written to, where those of the table in the first shards, so many, are new ones
abbrev pub without_begun : ℕ → ℕ → (ℕ → ℕ → ℕ) → ℕ → ℕ → ℕ
without_begun table count before n k = if (k == table) && nat_lt n count then 0 else before n k

-- numbers of files ascend, from above one number up to another
abbrev pub AscendTo : ℕ → List ℕ → ℕ → Type 0
AscendTo n [] last = n ≤ last
AscendTo n (k ∷ ks) last = (n < k) × AscendTo k ks last

-- The first shards were flushed, with these changes, one of each: all that was written to the table in them stands in its files. No other file is touched.
-- There is a change just where an atom stood in no file yet, be it one that covers no row. The new files' numbers ascend, from above the last; one number at
-- most was given to a file in each shard, and in the next one.
pub record Flushed (h : History) (t : TableSchema) (changes : List (Option Change)) (e : DiskState) : Type 0 where
  pub files : (n : ℕ) → Grows t.number n (shard_at h n) (change_of changes n) (h.disk.files n t.number) (e.files n t.number)
  pub others : (n k : ℕ) → (k ≡ t.number → ⊥) → e.files n k ≡ h.disk.files n k
  pub all : (n : ℕ) → n < length changes
      → AreInFiles (clustering_order t.columns) (e.files n t.number) (mutations_of t.number (all_entries (shard_at h n)))
  pub some : (n : ℕ) (c : Change) → change_of changes n ≡ Some c → SaySomething (h.unflushed n t.number)
  pub none : (n : ℕ) → n < length changes → change_of changes n ≡ None → SaySomething (h.unflushed n t.number) → ⊥
  pub numbers : AscendTo h.disk.last_file (numbers_added changes) e.last_file
  pub reach : e.reach ≡ fold reach_by h.disk.reach changes
  pub faults : h.disk.faults ≤ e.faults
  pub reads : h.disk.reads ≤ e.reads
  pub live : e.live ≡ h.disk.live + length (numbers_added changes)
  pub last_file : (h.disk.last_file ≤ e.last_file) × (e.last_file ≤ h.disk.last_file + length changes + 1)

-- ---- why it goes no further

-- no table file can be begun: 4,096 are listed, or the last number, 2^60, was given
abbrev pub HasNoFile : DiskState → Type 0
HasNoFile e = IsFull e.live e.last_file

-- the manifest has no place for the entry that would list one file more of the table in the shard
pub record HasNoEntry (table shard : ℕ) (s : ShardHistory) (e : DiskState) : Type 0 where
  pub file : File Held
  pub change : Change
  pub lists : ListsOne table shard s file change
  pub fits : FitsInfo file.info
  pub full : HasNoPlace (change_entry change) e.reach

-- there is too much of something: table files, bytes of the manifest, or what was written to the table in that shard and stands in no file yet
abbrev pub WhyTooMany : TableSchema → ℕ → ShardHistory → List Mutation → DiskState → Type 0
WhyTooMany t n s ws e = HasNoFile e ⊎ (HasNoEntry t.number n s e ⊎ IsOverfull t n ws)

-- ---- one shard alone

-- A table was flushed in a shard, with this change, if there was anything: between how the disk stood and stands.
pub record FlushedOne (t : TableSchema) (n : ℕ) (q : ShardHistory) (c : Option Change) (d e : DiskState) : Type 0 where
  pub files : Grows t.number n q c (d.files n t.number) (e.files n t.number)
  pub others : (k table : ℕ) → ((k ≡ n) × (table ≡ t.number) → ⊥) → e.files k table ≡ d.files k table
  pub all : AreInFiles (clustering_order t.columns) (e.files n t.number) (mutations_of t.number (all_entries q))
  pub reach : e.reach ≡ reach_by d.reach c
  pub live : e.live ≡ d.live + length (numbers_in c)
  pub stopped : e.stopped ≡ false

-- what stands in no table file, where this change was told of the table in the shard, if there is one
abbrev pub rest_with : ℕ → ℕ → Option Change → (ℕ → ℕ → List Mutation) → ℕ → ℕ → List Mutation
rest_with table n None before = before
rest_with table n (Some c) before = λ k j. if (k == n) && (j == table) then [] else before k j

-- the bytes of the memtables that are written to, where the table got a new one in the shard, or didn't
abbrev pub filled_with : ℕ → ℕ → Bool → (ℕ → ℕ → ℕ) → ℕ → ℕ → ℕ
filled_with table n false before = before
filled_with table n true before = λ k j. if (k == n) && (j == table) then 0 else before k j
