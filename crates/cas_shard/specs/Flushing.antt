-- What a shard has in memory of a table, so that it can be written to a table file, and when such a file takes its place.
-- Cassandra documentation, "Storage engine: memtables, SSTables"; own.
use Rattle.std.specs.Prelude.{◌≡◌, ℕ, ◌==◌, if◌then◌else◌, Option, None, Some, List, [], ◌∷◌, map, slice_get}
use Rattle.std.specs.Arc.{arc_value}
use Rattle.cas_types.specs.declared.schema.TableSchema.{TableSchema}
use Rattle.cas_bounds.specs.declared.order.Ordered.{Ordered}
use Rattle.cas_atoms.specs.declared.atom.Mutation.{Mutation}
use Rattle.cas_memtable.specs.declared.memtable.MemPart.{MemPart}
use Rattle.cas_memtable.specs.Kept.{HoldJust, StandInEach, all_of, memtables_of}
use Rattle.cas_sstread.specs.Loading.{Held}
use Rattle.cas_stored.specs.Stored.{StandInFile, StoredTable}
use Rattle.cas_view.specs.Views.{File}
use Rattle.cas_shard.specs.Stands.{SaySame, ShardState}

-- ---- memtables

-- the memtables of a table, if it has something stored: those that are frozen, the oldest first, and the one that is written to
abbrev pub memtables_at : Option StoredTable → List MemPart
memtables_at None = []
memtables_at (Some t) = memtables_of t.parts

-- those that are frozen
abbrev pub frozen_at : Option StoredTable → List MemPart
frozen_at None = []
frozen_at (Some t) = map arc_value t.parts.frozen.items

-- the bytes of the one that is written to: none where nothing was
abbrev pub bytes_at : Option StoredTable → ℕ
bytes_at None = 0
bytes_at (Some t) = t.parts.active.bytes

-- of each table the memtable that is written to has the bytes that it had
abbrev pub KeepsBytes : ShardState → ShardState → Type 0
KeepsBytes x y = (n : ℕ) → bytes_at (slice_get y.stores n) ≡ bytes_at (slice_get x.stores n)

-- ---- what they hold

-- In memory the shard has just these mutations of the table of that number, one after another, and each is one that the table may hold. Where there is no
-- such table nothing is said.
abbrev pub HasInMemory : List TableSchema → ℕ → List Mutation → ShardState → Type 0
HasInMemory tables n ws x = (t : TableSchema) → slice_get tables n ≡ Some t → HoldJust t.columns (memtables_at (slice_get x.stores n)) ws

-- a mutation, if it is of that table
abbrev pub one_of : ℕ → Mutation → List Mutation
one_of n m = if m.table == n then m ∷ [] else []

-- ---- a file in their place

-- A table file says what memtables do: mutations stand in it that say the same, and no more, as whichever mutations stand in these.
pub record SaysWhatTheyDo (order : List Ordered) (ms : List MemPart) (f : File Held) : Type 0 where
  pub written : List Mutation
  pub stand : StandInFile order f written
  pub says : (wss : List (List Mutation)) → StandInEach order ms wss → SaySame written (all_of wss)
