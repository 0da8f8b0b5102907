-- Shards that are given what a store has of them beside its log. Own.
use Rattle.std.specs.Prelude.{◌≡◌, ◌<◌, ◌≤◌, ◌≤ℤ◌, ◌++◌, ℕ, max, List, [], length, map, slice_get, Option, Some}
use Rattle.std.specs.Int.{int_max}
use Rattle.std.specs.List.{AllByRecursion}
use Rattle.cas_types.specs.Limits.{IsMoment}
use Rattle.cas_types.specs.declared.limits.TheConstants.{LAST_DRAWN, MUTATION_LIMIT}
use Rattle.cas_types.specs.declared.schema.TableSchema.{TableSchema}
use Rattle.cas_bounds.specs.declared.order.Ordered.{Ordered}
use Rattle.cas_atoms.specs.declared.atom.Mutation.{Mutation}
use Rattle.cas_info.specs.Allowed.{FitsInfo}
use Rattle.cas_info.specs.declared.info.TableInfo.{TableInfo}
use Rattle.cas_disk.specs.Disk.{Disk, Image}
use Rattle.cas_disk.specs.declared.name.Name.TheVariants.{Table as table_name}
use Rattle.cas_memtable.specs.Kept.{all_of}
use Rattle.cas_changes.specs.Saying.{Saying, part_of}
use Rattle.cas_stored.specs.Stored.{HoldEach, IsFileOf, StoredTable}
use Rattle.cas_listed.specs.Listed.{AreLoaded, IsBadFile}
use Rattle.cas_shard.specs.Flushing.{HasInMemory, KeepsBytes}
use Rattle.cas_shard.specs.Stands.{Holds, ShardState, files_at}
use Rattle.cas_recovery.specs.declared.fault.RecoveryFault.{RecoveryFault}
use Rattle.cas_recovery.specs.declared.fault.RecoveryFault.TheVariants as fault
use Rattle.cas_recovery.specs.Openings.{greatest_frontier, times_of}
use Rattle.cas_recovery.specs.Inner.Restoring.{HaveRestored}
use Rattle.cas_bind.specs.declared.bound.Limits.{Limits}

-- what is said of tables and shards is within limits
pub record IsWithin (s : Saying) : Type 0 where
  pub numbers : (i : ℕ) (t : TableSchema) → slice_get s.tables i ≡ Some t → t.number ≡ i
  pub frontiers : (table shard : ℕ) → (part_of s table shard).frontier ≤ MUTATION_LIMIT
  pub no_more : (table shard : ℕ) → length s.tables ≤ table → (part_of s table shard).frontier ≡ 0
  pub listed : (table shard : ℕ) → AllByRecursion FitsInfo (part_of s table shard).listed
  pub moments : (shard : ℕ) → IsMoment (times_of s shard).moment
  pub drawn : (shard : ℕ) → (times_of s shard).drawn ≤ℤ LAST_DRAWN

-- A table that had no file was given those that are listed, as the folder has them: it holds what stands in them, and what it held.
pub record HasTaken (t : TableSchema) (disk : Disk) (shard : ℕ) (listed : List TableInfo) (old new : Option StoredTable) : Type 0 where
  pub loaded : (c : Image) → disk.reads c → AreLoaded t shard c listed (files_at new)
  pub infos : map (λ f. f.info) (files_at new) ≡ listed
  pub own : AllByRecursion (IsFileOf t.columns) (files_at new)
  pub holds : (order : List Ordered) (vss : List (List Mutation)) (ws : List Mutation) → files_at old ≡ [] → HoldEach order (files_at new) [] vss
      → Holds order old ws → Holds order new (all_of vss ++ ws)

-- a table holds what it held, and has the files that it had
pub record HasStayed (old new : Option StoredTable) : Type 0 where
  pub holds : (order : List Ordered) (ws : List Mutation) → Holds order old ws → Holds order new ws
  pub files : files_at new ≡ files_at old

-- a shard has in memory what it had
abbrev pub KeepsMemory : ShardState → ShardState → Type 0
KeepsMemory x y = (tables : List TableSchema) (table : ℕ) (ws : List Mutation) → HasInMemory tables table ws x → HasInMemory tables table ws y

-- a table of a shard was given what the store has of it, and the others stayed
pub record IsGiven (s : Saying) (disk : Disk) (shard : ℕ) (t : TableSchema) (x y : ShardState) : Type 0 where
  pub taken : HasTaken t disk shard (part_of s t.number shard).listed (slice_get x.stores t.number) (slice_get y.stores t.number)
  pub stayed : (table : ℕ) → (table ≡ t.number → ⊥) → HasStayed (slice_get x.stores table) (slice_get y.stores table)
  pub few : (n : ℕ) → length x.stores ≤ n → t.number < n → length y.stores ≤ n
  pub number : y.number ≡ max x.number (part_of s t.number shard).frontier
  pub drawn : y.drawn ≡ x.drawn
  pub moment : y.moment ≡ x.moment
  pub memory : KeepsMemory x y
  pub bytes : KeepsBytes x y

-- the first tables of a shard, so many, were given what the store has of them, and the others stayed
pub record AreGiven (s : Saying) (disk : Disk) (shard count : ℕ) (x y : ShardState) : Type 0 where
  pub taken : (table : ℕ) (t : TableSchema) → table < count → slice_get s.tables table ≡ Some t
      → HasTaken t disk shard (part_of s table shard).listed (slice_get x.stores table) (slice_get y.stores table)
  pub stayed : (table : ℕ) → count ≤ table → HasStayed (slice_get x.stores table) (slice_get y.stores table)
  pub few : (n : ℕ) → length x.stores ≤ n → count ≤ n → length y.stores ≤ n
  pub number : y.number ≡ max x.number (greatest_frontier s shard count)
  pub drawn : y.drawn ≡ x.drawn
  pub moment : y.moment ≡ x.moment
  pub memory : KeepsMemory x y
  pub bytes : KeepsBytes x y

-- a shard was given all that the store has of it
pub record IsFilled (s : Saying) (disk : Disk) (shard : ℕ) (x y : ShardState) : Type 0 where
  pub tables : (table : ℕ) (t : TableSchema) → slice_get s.tables table ≡ Some t
      → HasTaken t disk shard (part_of s table shard).listed (slice_get x.stores table) (slice_get y.stores table)
  pub few : length x.stores ≤ length s.tables → length y.stores ≤ length s.tables
  pub number : y.number ≡ max x.number (greatest_frontier s shard (length s.tables))
  pub drawn : y.drawn ≡ int_max x.drawn (times_of s shard).drawn
  pub moment : y.moment ≡ int_max x.moment (times_of s shard).moment
  pub memory : KeepsMemory x y
  pub bytes : KeepsBytes x y

-- so were the first shards, so many
pub record AreFilled (s : Saying) (disk : Disk) (count : ℕ) (xs ys : List ShardState) : Type 0 where
  pub length_is : length ys ≡ length xs
  pub filled : (n : ℕ) (y : ShardState) → n < count → slice_get ys n ≡ Some y → (x : ShardState) × (slice_get xs n ≡ Some x) × IsFilled s disk n x y
  pub others : (n : ℕ) → count ≤ n → slice_get ys n ≡ slice_get xs n

-- the fault tells a listed file of a table that isn't loaded, if it tells that a file is bad
abbrev pub IsBadOf : Saying → Image → TableSchema → ℕ → RecoveryFault → Type 0
IsBadOf s c t shard (fault.Bad (table_name number) at) = IsBadFile t shard c (part_of s t.number shard).listed number at
IsBadOf s c t shard (fault.Bad _ at) = ⊥
IsBadOf s c t shard fault.Failed = Unit {0}
IsBadOf s c t shard fault.Read = Unit {0}
IsBadOf s c t shard fault.Mem = Unit {0}

-- a file of one of the tables
abbrev pub IsBadIn : Saying → Image → ℕ → RecoveryFault → Type 0
IsBadIn s c shard (fault.Bad name at) = (t : TableSchema) × (table : ℕ) × (slice_get s.tables table ≡ Some t) × IsBadOf s c t shard (fault.Bad name at)
IsBadIn s c shard fault.Failed = Unit {0}
IsBadIn s c shard fault.Read = Unit {0}
IsBadIn s c shard fault.Mem = Unit {0}

-- and of one of the shards
abbrev pub IsBadOfShard : Saying → Image → RecoveryFault → Type 0
IsBadOfShard s c (fault.Bad name at) = (n : ℕ) × (n < s.shards) × IsBadIn s c n (fault.Bad name at)
IsBadOfShard s c fault.Failed = Unit {0}
IsBadOfShard s c fault.Read = Unit {0}
IsBadOfShard s c fault.Mem = Unit {0}

-- The limits, tables and shards are those of which this is said, and each shard was given what the store has of it: these mutations first, and then all
-- beside the log.
pub record IsBroughtBack (given : Limits) (mutations : List Mutation) (s : Saying) (disk : Disk) (limits : Limits) (tables : List TableSchema)
    (shards : List ShardState) : Type 0 where
  pub same : limits ≡ record given { shards = s.shards }
  pub tables_are : tables ≡ s.tables
  pub count : length shards ≡ s.shards
  pub before : List ShardState
  pub restored : HaveRestored mutations before
  pub filled : AreFilled s disk s.shards before shards
