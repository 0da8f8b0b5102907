-- Which entries may follow, by what is said so far.
-- Own format.
use Rattle.std.specs.Prelude.{◌≡◌, ◌<◌, ◌≤◌, ◌≤ℤ◌, ◌^◌, ◌-◌, ℕ, ℤ, true, false, ◌&&◌, not, nat_lt, Bool, List, [], length, slice_get, Some}
use Rattle.std.specs.List.{AllByRecursion, list_all}
use Rattle.cas_types.specs.Limits.{IsShardCount, IsMoment}
use Rattle.cas_types.specs.declared.limits.TheConstants.{LAST_DRAWN, MUTATION_LIMIT, COLUMN_LIMIT}
use Rattle.cas_types.specs.declared.schema.TableSchema.{TableSchema}
use Rattle.cas_info.specs.Allowed.{FitsInfo}
use Rattle.cas_info.specs.declared.info.TableInfo.{TableInfo}
use Rattle.cas_schemas.specs.Each.{EachFits}
use Rattle.cas_schemas.specs.Columns.{FitColumns, HaveRoom}
use Rattle.cas_schemas.specs.Allowed.{FitsTable, HasSpelling as HasSchema}
use Rattle.cas_changes.specs.declared.said.TheConstants.{SEGMENT_LIMIT, LISTED_LIMIT, FIRST_DRAWN}
use Rattle.cas_changes.specs.declared.entry.Change.{Change}
use Rattle.cas_changes.specs.declared.entry.Entry.{Entry}
use Rattle.cas_changes.specs.declared.entry.Entry.TheVariants as entry
use Rattle.cas_changes.specs.Saying.{Saying, part_of, is_listed, has_file, listed_after}

-- the store's number of shards was said
abbrev pub IsMade : Saying → Type 0
IsMade s = 1 ≤ s.shards

-- the number is above all of these: removed files ascend
abbrev pub is_above : List ℕ → ℕ → Bool
is_above before n = list_all (λ m. nat_lt m n) before

-- a file that may be removed behind these: one that is listed there, with a greater number
abbrev pub may_go : List TableInfo → List ℕ → ℕ → Bool
may_go listed before n = has_file listed n && is_above before n

-- a file that may be added behind these: one whose number none was added with
abbrev pub may_come : Saying → List TableInfo → ℕ → Bool
may_come s before n = not (is_listed s.numbers n) && not (has_file before n)

-- a last drawn timestamp: -2 before the first
abbrev pub IsDrawn : ℤ → Type 0
IsDrawn at = (FIRST_DRAWN ≤ℤ at) × (at ≤ℤ LAST_DRAWN)

-- A change that may follow: of a table that is defined, in a shard that there is; the frontier doesn't fall; what is removed is listed there, and
-- what is added is new.
pub record FitsChange (s : Saying) (c : Change) : Type 0 where
  pub table : c.table < length s.tables
  pub shard : c.shard < s.shards
  pub moment : IsMoment c.moment
  pub frontier : ((part_of s c.table c.shard).frontier ≤ c.frontier) × (c.frontier ≤ MUTATION_LIMIT)
  pub drawn : IsDrawn c.drawn
  pub few_removed : length c.removed < 2 ^ 16
  pub removed : EachFits (λ before n. (n < 2 ^ 64) × (may_go (part_of s c.table c.shard).listed before n ≡ true)) [] c.removed
  pub few_added : length c.added < 2 ^ 16
  pub added : EachFits (λ before i. FitsInfo i × (may_come s before i.number ≡ true)) [] c.added

-- an entry that may follow, how many files it lists aside
abbrev pub FitsEntry : Saying → Entry → Type 0
FitsEntry s (entry.Store shards) = (s.shards ≡ 0) × IsShardCount shards
FitsEntry s (entry.Schema t) = IsMade s × FitsTable s.tables t
FitsEntry s (entry.NewSegment n) = IsMade s × (s.last_segment < n) × (n ≤ SEGMENT_LIMIT)
FitsEntry s (entry.DropSegment n) = IsMade s × (n < 2 ^ 64) × (is_listed s.segments n ≡ true)
FitsEntry s (entry.Change c) = IsMade s × FitsChange s c
FitsEntry s (entry.AddColumns table columns) =
    IsMade s × (t : TableSchema) × (slice_get s.tables table ≡ Some t) × FitColumns (COLUMN_LIMIT - length t.columns) false t.columns columns

-- at most 4,096 files are listed after it
abbrev pub IsListable : Saying → Entry → Type 0
IsListable s e = listed_after s.listed e ≤ LISTED_LIMIT

-- an entry that may follow
abbrev pub FitsNext : Saying → Entry → Type 0
FitsNext s e = FitsEntry s e × IsListable s e

-- an entry whose counts and lengths have room in their fields
abbrev pub HasSpelling : Entry → Type 0
HasSpelling (entry.Store shards) = Unit {0}
HasSpelling (entry.Schema t) = HasSchema t
HasSpelling (entry.NewSegment n) = Unit {0}
HasSpelling (entry.DropSegment n) = Unit {0}
HasSpelling (entry.Change c) =
    (length c.removed < 2 ^ 16) × (length c.added < 2 ^ 16) × AllByRecursion (λ i. (length i.first < 2 ^ 16) × (length i.last < 2 ^ 16)) c.added
HasSpelling (entry.AddColumns table columns) = HaveRoom columns
