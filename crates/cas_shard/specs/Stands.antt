-- A shard's state stands for its history: its memtables and files hold all that was entered; and when a mutation can be entered.
-- Cassandra documentation, "Storage engine: memtables"; own.
use Rattle.std.specs.Prelude.{◌≡◌, ℕ, ℤ, ◌==◌, if◌then◌else◌, ◌+◌, ◌/◌, ◌<◌, ◌≤◌, ◌≤ℤ◌, true, Option, None, Some, List, [], ◌∷◌, ◌++◌, length, slice_get}
use Rattle.std.specs.List.{flat_map}
use Rattle.cas_types.specs.declared.limits.TheConstants.{LAST_DRAWN, MUTATION_LIMIT}
use Rattle.cas_types.specs.declared.schema.TableSchema.{TableSchema}
use Rattle.cas_bounds.specs.ClusteringOrder.{clustering_order}
use Rattle.cas_bounds.specs.declared.cuts.Cut.{Cut}
use Rattle.cas_bounds.specs.declared.order.Ordered.{Ordered}
use Rattle.cas_atoms.specs.Fits.{FitsMutation, FitsQuery}
use Rattle.cas_atoms.specs.LogLength.{record_length}
use Rattle.cas_atoms.specs.Winners.{Same}
use Rattle.cas_atoms.specs.declared.atom.Atom.{Atom}
use Rattle.cas_atoms.specs.declared.atom.Mutation.{Mutation}
use Rattle.cas_atoms.specs.declared.query.Query.{Query}
use Rattle.cas_effects.specs.FitsBound.{FitsBound}
use Rattle.cas_effects.specs.declared.effect.BoundWrite.{BoundWrite}
use Rattle.cas_partition.specs.Ends.{IsEnd}
use Rattle.cas_memtable.specs.Memtables.{HasPlaces}
use Rattle.cas_memtable.specs.Kept.{all_of, atoms_under}
use Rattle.cas_sstread.specs.Loading.{Held}
use Rattle.cas_streams.specs.NoMore.{SaysNoMore}
use Rattle.cas_stored.specs.Stored.{HoldEach, HoldsEach, StoredTable}
use Rattle.cas_view.specs.Views.{File}
use Rattle.cas_shard.specs.declared.entry.Entry.{Entry}
use Rattle.cas_shard.specs.declared.entry.Entry.TheVariants.{Wrote}
use Rattle.cas_shard.specs.Entries.{AreNumbered, first, last_number}
use Rattle.cas_shard.specs.Laws.{atoms_of_partition}
use Rattle.cas_shard.specs.Shards.{ShardHistory, all_entries, number_of, drawn_of}

-- ---- a history

-- the mutations' numbers ascend, from above n
abbrev pub Ascend : ℕ → List Entry → Type 0
Ascend n [] = Unit {0}
Ascend n (Wrote session call m ∷ entries) = (n < m.number) × Ascend m.number entries

-- The numbers of the mutations that were found ascend, and none is above the shard's number then; what was entered since is numbered by one, from the
-- one after that. What is missing among those that were found is in tables' files, of each table up to a number of its own.
pub record NumbersRise (s : ShardHistory) : Type 0 where
  pub ascend : Ascend 0 s.found.entries
  pub found : last_number 0 s.found.entries ≤ s.found.number
  pub rise : AreNumbered s.found.number s.entries

-- the atoms of all mutations of a partition, one mutation after another
abbrev pub written_to : ℕ → List Entry → List ℕ → List Atom
written_to table entries key = flat_map (atoms_of_partition table key) entries

-- all that was found and entered in a partition is numbered up to the shard's number, so a look there shows all of it
abbrev pub AreShown : ShardHistory → Type 0
AreShown s = (table : ℕ) (key : List ℕ) → first (number_of s) table key (all_entries s) ≡ written_to table (all_entries s) key

-- ---- tables

-- how the table orders its rows, if there is one
abbrev pub order_of : Option TableSchema → List Ordered
order_of None = []
order_of (Some t) = clustering_order t.columns

-- how the table of that number orders its rows
abbrev pub order_at : List TableSchema → ℕ → List Ordered
order_at tables table = order_of (slice_get tables table)

-- the write is of one of the tables, and one that this can take, in a store with so many shards
abbrev pub Suits : List TableSchema → ℕ → BoundWrite → Type 0
Suits tables shards w = (t : TableSchema) × (slice_get tables w.table ≡ Some t) × FitsBound t shards w

-- the mutation is of one of the tables, and one that the log may hold of this, in a store with so many shards
abbrev pub Belongs : List TableSchema → ℕ → Mutation → Type 0
Belongs tables shards m = (t : TableSchema) × (slice_get tables m.table ≡ Some t) × FitsMutation t shards m

-- the query is of one of the tables, and may be put to it
abbrev pub Asks : List TableSchema → Query → Type 0
Asks tables q = (t : TableSchema) × (slice_get tables q.table ≡ Some t) × FitsQuery t q

-- ---- what a shard has stored

-- a shard's state: what it has stored of each table, at the tables' numbers, the number of its last mutation, the last timestamp that it drew, and its last
-- moment in seconds
pub record ShardState : Type 0 where
  pub stores : List StoredTable
  pub number : ℕ
  pub drawn : ℤ
  pub moment : ℤ

-- an entry's mutation, if it is of that table
abbrev pub of_table : ℕ → Entry → List Mutation
of_table table (Wrote session call m) = if m.table == table then m ∷ [] else []

-- the mutations of a table, one after another
abbrev pub mutations_of : ℕ → List Entry → List Mutation
mutations_of table entries = flat_map (of_table table) entries

-- what a table has stored holds these mutations, file by file and memtable by memtable; a table that has nothing stored holds none
abbrev pub HoldsIn : List Ordered → Option StoredTable → List (List Mutation) → Type 0
HoldsIn order None wss = wss ≡ []
HoldsIn order (Some t) wss = HoldsEach order t wss

-- under each key these mutations say the same as those, and no more, and their range deletions begin and end only where those of the others do
pub record SaySame (vs ws : List Mutation) : Type 0 where
  pub same : (key : List ℕ) → Same (atoms_under key vs) (atoms_under key ws)
  pub no_more : (key : List ℕ) → SaysNoMore (atoms_under key vs) (atoms_under key ws)
  pub ends : (key : List ℕ) (c : Cut) → IsEnd (atoms_under key vs) c → IsEnd (atoms_under key ws) c

-- What a table that orders its rows so has stored says the same as these mutations, and no more. Which of them wrote it can't be seen in a file.
pub record Holds (order : List Ordered) (stored : Option StoredTable) (ws : List Mutation) : Type 0 where
  pub places : List (List Mutation)
  pub holds : HoldsIn order stored places
  pub says : SaySame (all_of places) ws

-- a shard's state stands for its history
pub record Stands (tables : List TableSchema) (s : ShardHistory) (x : ShardState) : Type 0 where
  pub numbers : NumbersRise s
  pub number : x.number ≡ number_of s
  pub drawn : x.drawn ≡ drawn_of s
  pub moment : x.moment ≡ s.moment
  pub kept : (table : ℕ) → Holds (order_at tables table) (slice_get x.stores table) (mutations_of table (all_entries s))
  pub few : length x.stores ≤ length tables

-- ---- files

-- the files of a table, if it has something stored
abbrev pub files_at : Option StoredTable → List (File Held)
files_at None = []
files_at (Some t) = t.files

-- no table has a file
abbrev pub HasNoFiles : ShardState → Type 0
HasNoFiles x = (table : ℕ) → length (files_at (slice_get x.stores table)) ≡ 0

-- each table has the files that it had
abbrev pub KeepsFiles : ShardState → ShardState → Type 0
KeepsFiles old new = (table : ℕ) → files_at (slice_get new.stores table) ≡ files_at (slice_get old.stores table)

-- A table that had no file was given these: it holds what stands in them, and what it held. The other tables hold what they held, and have the files that
-- they had; and no table more has something stored than the table's number asks for.
pub record TakesFiles (table : ℕ) (files : List (File Held)) (old new : List StoredTable) : Type 0 where
  pub holds : (order : List Ordered) (vss : List (List Mutation)) (ws : List Mutation) → files_at (slice_get old table) ≡ []
      → HoldEach order files [] vss → Holds order (slice_get old table) ws → Holds order (slice_get new table) (all_of vss ++ ws)
  pub files_are : files_at (slice_get new table) ≡ files
  pub others : (t : ℕ) (order : List Ordered) (ws : List Mutation) → (t ≡ table → ⊥) → Holds order (slice_get old t) ws → Holds order (slice_get new t) ws
  pub other_files : (t : ℕ) → (t ≡ table → ⊥) → files_at (slice_get new t) ≡ files_at (slice_get old t)
  pub few : (n : ℕ) → length old ≤ n → table < n → length new ≤ n

-- ---- what can be entered

-- the mutation's atoms have their places in the memtable that is written to
abbrev pub PlacesAt : Option StoredTable → Mutation → Type 0
PlacesAt None m = ⊥
PlacesAt (Some t) m = HasPlaces t.parts.active m

-- in that of its table
abbrev pub HasRoom : Mutation → List StoredTable → Type 0
HasRoom m stores = (m.table < length stores) × PlacesAt (slice_get stores m.table) m

-- A shard is prepared for the mutation, which then enters without memory: it has its places, it is the next one, and neither its number nor what was
-- drawn for it is past its limit.
pub record IsPrepared (x : ShardState) (m : Mutation) : Type 0 where
  pub room : HasRoom m x.stores
  pub next : m.number ≡ x.number + 1
  pub few : m.number ≤ MUTATION_LIMIT
  pub low : m.drawn ≡ true → m.at ≤ℤ LAST_DRAWN

-- The mutation of a write is ready for the log: it is of the write's table and shard, its record isn't longer than half a segment, and of a table that
-- can take the write it is one that the log may hold.
pub record IsReady (segment : ℕ) (w : BoundWrite) (m : Mutation) : Type 0 where
  pub table : m.table ≡ w.table
  pub shard : m.shard ≡ w.shard
  pub short : record_length m ≤ segment / 2
  pub fits : (t : TableSchema) (shards : ℕ) → FitsBound t shards w → FitsMutation t shards m
