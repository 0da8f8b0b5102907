-- What the entries of a manifest say together.
-- Own.
use Rattle.std.specs.Prelude.{◌≤◌, ℕ, ◌+◌, ◌-◌, ◌*◌, ◌==◌, pos, Bool, not}
use Rattle.std.specs.Prelude.{List, [], ◌∷◌, ◌++◌, length, map, filter, replicate, slice_get, slice_set, unwrap_or, if◌then◌else◌}
use Rattle.std.specs.List.{list_any, fold}
use Rattle.std.specs.Int.{int_max}
use Rattle.cas_types.specs.declared.schema.Column.{Column}
use Rattle.cas_types.specs.declared.schema.TableSchema.{TableSchema}
use Rattle.cas_types.specs.declared.limits.TheConstants.{SHARD_LIMIT}
use Rattle.cas_schemas.specs.declared.schemas.TheConstants.{TABLE_LIMIT}
use Rattle.cas_info.specs.declared.info.TableInfo.{TableInfo}
use Rattle.cas_changes.specs.declared.said.Part.{Part}
use Rattle.cas_changes.specs.declared.said.TheConstants.{FIRST_DRAWN}
use Rattle.cas_changes.specs.declared.said.ShardTimes.{ShardTimes}
use Rattle.cas_changes.specs.declared.entry.Change.{Change}
use Rattle.cas_changes.specs.declared.entry.Entry.{Entry}
use Rattle.cas_changes.specs.declared.entry.Entry.TheVariants as entry

-- What is said: the number of shards, 0 before it is said; the tables; the listed segments, and the greatest number of one named so far; the
-- numbers of all table files that were ever added, and how many are listed; of each table its part in each shard, table by table; and of each
-- shard its last moment and drawn timestamp.
pub record Saying : Type 0 where
  pub shards : ℕ
  pub tables : List TableSchema
  pub segments : List ℕ
  pub last_segment : ℕ
  pub numbers : List ℕ
  pub listed : ℕ
  pub parts : List Part
  pub times : List ShardTimes

-- before the first entry nothing is said
abbrev pub nothing : Saying
nothing = record { shards = 0; tables = []; segments = []; last_segment = 0; numbers = []; listed = 0; parts = []; times = [] }

-- a table of which no file is listed in a shard
abbrev pub no_part : Part
no_part = record { frontier = 0; listed = [] }

-- a shard in which nothing was written
abbrev pub no_times : ShardTimes
no_times = record { moment = pos 0; drawn = FIRST_DRAWN }

-- the place of a table's part in a shard
abbrev pub place_in : Saying → ℕ → ℕ → ℕ
place_in s table shard = table * s.shards + shard

-- a table's part in a shard
abbrev pub part_of : Saying → ℕ → ℕ → Part
part_of s table shard = unwrap_or (slice_get s.parts (place_in s table shard)) no_part

-- the frontiers of each table in each shard, table by table
abbrev pub frontiers_in : Saying → List ℕ
frontiers_in s = map (λ p. p.frontier) s.parts

-- the number is among these
abbrev pub is_listed : List ℕ → ℕ → Bool
is_listed numbers n = list_any (λ m. m == n) numbers

-- a file of the number is among these
abbrev pub has_file : List TableInfo → ℕ → Bool
has_file infos n = list_any (λ i. i.number == n) infos

-- a part after a change: the files that aren't removed, and then those that are added
abbrev pub part_after : Part → Change → Part
part_after p c = record { frontier = c.frontier; listed = filter (λ i. not (is_listed c.removed i.number)) p.listed ++ c.added }

-- a shard's times after a change: the greatest so far
abbrev pub times_after : ShardTimes → Change → ShardTimes
times_after t c = record { moment = int_max t.moment c.moment; drawn = int_max t.drawn c.drawn }

-- how many files are listed after an entry
abbrev pub listed_after : ℕ → Entry → ℕ
listed_after n (entry.Change c) = n - length c.removed + length c.added
listed_after n _ = n

-- the table, with these columns behind its own if it has the number
abbrev pub with_columns : ℕ → List Column → TableSchema → TableSchema
with_columns table columns t = if t.number == table then record t { columns = t.columns ++ columns } else t

-- what is said after a change of table files
abbrev pub change_after : Saying → Change → Saying
change_after s c =
    record s {
      parts = slice_set s.parts (place_in s c.table c.shard) (part_after (part_of s c.table c.shard) c);
      times = slice_set s.times c.shard (times_after (unwrap_or (slice_get s.times c.shard) no_times) c);
      numbers = s.numbers ++ map (λ i. i.number) c.added;
      listed = s.listed - length c.removed + length c.added;
    }

-- what is said after an entry
abbrev pub after : Saying → Entry → Saying
after s (entry.Store shards) = record s { shards = shards; times = replicate shards no_times }
after s (entry.Schema t) = record s { tables = s.tables ++ t ∷ []; parts = s.parts ++ replicate s.shards no_part }
after s (entry.NewSegment n) = record s { segments = s.segments ++ n ∷ []; last_segment = n }
after s (entry.DropSegment n) = record s { segments = filter (λ m. not (m == n)) s.segments }
after s (entry.Change c) = change_after s c
after s (entry.AddColumns table columns) = record s { tables = map (with_columns table columns) s.tables }

-- what entries say together, one after another
unfoldable pub said_by : List Entry → Saying
said_by entries = fold after nothing entries

-- a store has at most 64 tables and 16 shards
pub record IsSaid (s : Saying) : Type 0 where
  pub tables : length s.tables ≤ TABLE_LIMIT
  pub shards : s.shards ≤ SHARD_LIMIT
