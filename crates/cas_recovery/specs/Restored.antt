-- What a store is in memory when it was opened (own).
use Rattle.std.specs.Prelude.{◌≡◌, ◌≤◌, ℕ, max, List, [], ◌++◌, length, map, slice_get, Some}
use Rattle.std.specs.List.{AllByRecursion, fold}
use Rattle.cas_types.specs.declared.schema.TableSchema.{TableSchema}
use Rattle.cas_bounds.specs.ClusteringOrder.{clustering_order}
use Rattle.cas_bounds.specs.declared.cuts.Slice.{Slice}
use Rattle.cas_atoms.specs.declared.atom.Mutation.{Mutation}
use Rattle.cas_memtable.specs.Kept.{bytes_of}
use Rattle.cas_index.specs.Searches.{IsSliceOf}
use Rattle.cas_changes.specs.Saying.{Saying, part_of, said_by}
use Rattle.cas_changes.specs.declared.entry.Entry.{Entry as ManifestEntry}
use Rattle.cas_journal.specs.Stores.{Told, named}
use Rattle.cas_opening.specs.Opening.{found_with}
use Rattle.cas_shard.specs.Flushing.{HasInMemory, bytes_at}
use Rattle.cas_shard.specs.Stands.{ShardState, files_at, mutations_of}
use Rattle.cas_stored.specs.Reading.{AreReadIn}
use Rattle.cas_recovery.specs.Found.{found_in}

-- the files of each table may be read in each slice of the table: they are of a table of at most 256 columns, and order their rows as it does
abbrev pub MayBeRead : List TableSchema → List ShardState → Type 0
MayBeRead tables shards = (n : ℕ) (x : ShardState) → slice_get shards n ≡ Some x → (table : ℕ) (t : TableSchema) → slice_get tables table ≡ Some t
    → (s : Slice) → IsSliceOf (clustering_order t.columns) s → AreReadIn s (files_at (slice_get x.stores table))

-- a table that isn't there has no file
abbrev pub HaveNoMore : List TableSchema → List ShardState → Type 0
HaveNoMore tables shards = (n : ℕ) (x : ShardState) → slice_get shards n ≡ Some x → (table : ℕ) → length tables ≤ table
    → length (files_at (slice_get x.stores table)) ≡ 0

-- the files of each table are those that the entries list, in their order
abbrev pub AreListed : List ManifestEntry → List TableSchema → List ShardState → Type 0
AreListed entries tables shards = (n : ℕ) (x : ShardState) → slice_get shards n ≡ Some x → (table : ℕ) (t : TableSchema) → slice_get tables table ≡ Some t
    → map (λ f. f.info) (files_at (slice_get x.stores table)) ≡ (part_of (said_by entries) table n).listed

-- In memory a shard has just these mutations of a table, each of which the table may hold; and so it is with whatever tables come behind these.
abbrev pub RemembersJust : List TableSchema → ℕ → List Mutation → ShardState → Type 0
RemembersJust tables table ws x = (more : List TableSchema) → HasInMemory (tables ++ more) table ws x

-- it has just some
abbrev pub Remembers : List TableSchema → ℕ → ShardState → Type 0
Remembers tables table x = (ws : List Mutation) × RemembersJust tables table ws x

-- each shard has of each table just what these mutations have of it
abbrev pub RememberAll : List TableSchema → List Mutation → List ShardState → Type 0
RememberAll tables mutations shards =
    (n table : ℕ) (x : ShardState) → slice_get shards n ≡ Some x → RemembersJust tables table (mutations_of table (found_in n mutations).entries) x

-- of each table in each shard the memtable that is written to has the bytes of just these mutations
abbrev pub AreFilledBy : List Mutation → List ShardState → Type 0
AreFilledBy mutations shards = (n table : ℕ) (x : ShardState) → slice_get shards n ≡ Some x
    → bytes_at (slice_get x.stores table) ≡ bytes_of 0 (mutations_of table (found_in n mutations).entries)

-- each shard has some of each table
abbrev pub Remember : List TableSchema → List ShardState → Type 0
Remember tables shards = (n table : ℕ) (x : ShardState) → slice_get shards n ≡ Some x → Remembers tables table x

-- the same, whichever these are
abbrev pub HaveMemory : List TableSchema → List ShardState → Type 0
HaveMemory tables shards = (n table : ℕ) (x : ShardState) → slice_get shards n ≡ Some x → ∥ Remembers tables table x ∥₁

-- the greatest of these numbers, 0 where there is none
abbrev pub greatest_of : List ℕ → ℕ
greatest_of numbers = fold max 0 numbers

-- What the manifest says of table files is not ahead of the store: no frontier is above the shard's number; no file that it ever listed has a number
-- above the last; and it lists as many as are live.
pub record IsBehind (said : Saying) (shards : List ShardState) (last live : ℕ) : Type 0 where
  pub frontiers : (n table : ℕ) (x : ShardState) → slice_get shards n ≡ Some x → (part_of said table n).frontier ≤ x.number
  pub numbers : AllByRecursion (λ k. k ≤ last) said.numbers
  pub listed : said.listed ≡ live

-- What the journal was told of a store of these entries and mutations, which are all there: the manifest has the entries, and behind them names of segments
-- that were begun.
pub record IsTold (entries : List ManifestEntry) (mutations : List Mutation) (t : Told) : Type 0 where
  pub found : t.found ≡ found_with entries mutations
  pub begun : (numbers : List ℕ) × (t.entries ≡ entries ++ named numbers)
  pub tables : (said_by t.entries).tables ≡ (said_by entries).tables
  pub shards : (said_by t.entries).shards ≡ (said_by entries).shards
  pub parts : (said_by t.entries).parts ≡ (said_by entries).parts
  pub numbers : (said_by t.entries).numbers ≡ (said_by entries).numbers
  pub listed : (said_by t.entries).listed ≡ (said_by entries).listed
  pub failed : t.failed ≡ []
  pub taken : t.taken ≡ mutations
  pub committed : length mutations ≤ t.committed
  pub whole : t.leaving ≡ 0
