-- Reading the entries of the manifest. That this reading takes the spellings of the entries that may follow and nothing else is a law.
-- Own. The place of a refusal is that of the refused field's first byte.
use Rattle.std.specs.Prelude.{ℕ, ℤ, pos, ◌-◌, ◌==◌, nat_lt, nat_le, Bool, false, ◌&&◌, List, [], length, slice_get, Option, None, Some, if◌then◌else◌, Ok, Err}
use Rattle.std.specs.Int.{is_in_range}
use Rattle.cas_codec.specs.declared.fault.ReadFault.TheVariants.{Bad}
use Rattle.cas_codec.specs.Reading.{Left, Read, ◌>>=◌, checked, is_within, u8_at, u16_at, u64_at, i64_at}
use Rattle.cas_types.specs.declared.limits.TheConstants.{LAST_DRAWN, LAST_SECOND, MUTATION_LIMIT, SHARD_LIMIT, COLUMN_LIMIT}
use Rattle.cas_types.specs.declared.schema.TableSchema.{TableSchema}
use Rattle.cas_info.specs.declared.info.TableInfo.{TableInfo}
use Rattle.cas_info.specs.Reading.{info_at}
use Rattle.cas_schemas.specs.Each.{each_at}
use Rattle.cas_schemas.specs.Reading.{columns_at, schema_at}
use Rattle.cas_changes.specs.declared.said.TheConstants.{SEGMENT_LIMIT, LISTED_LIMIT, FIRST_DRAWN}
use Rattle.cas_changes.specs.declared.entry.Change.{Change}
use Rattle.cas_changes.specs.declared.entry.Entry.{Entry}
use Rattle.cas_changes.specs.declared.entry.Entry.TheVariants as entry
use Rattle.cas_changes.specs.Saying.{Saying, part_of, is_listed, listed_after}
use Rattle.cas_changes.specs.Allowed.{may_go, may_come}

-- ---- changes

-- numbers count from 0 up to a number that isn't reached
unfoldable pub is_below : ℕ → ℕ → Bool
is_below limit n = nat_lt n limit

-- the number of a table that is defined, and a shard that there is
unfoldable pub where_at : Saying → Left → Read (ℕ × ℕ)
where_at s left = do
  table ← checked (is_below (length s.tables)) u16_at left
  shard ← checked (is_below s.shards) u8_at table.1
  Ok ((table.0, shard.0), shard.1)

-- the moment, a frontier that doesn't fall, and the last drawn timestamp
unfoldable pub marks_at : ℕ → Left → Read (ℤ × ℕ × ℤ)
marks_at frontier left = do
  moment ← checked (is_within (pos 0) LAST_SECOND) i64_at left
  mark ← checked (is_in_range frontier MUTATION_LIMIT) u64_at moment.1
  drawn ← checked (is_within FIRST_DRAWN LAST_DRAWN) i64_at mark.1
  Ok ((moment.0, mark.0, drawn.0), drawn.1)

-- the number of a file that may be removed behind these
unfoldable pub gone_at : List TableInfo → List ℕ → Left → Read ℕ
gone_at listed before left = checked (may_go listed before) u64_at left

-- a file that may be added behind these; one whose number was added before is refused at the number
unfoldable pub come_at : Saying → List TableInfo → Left → Read TableInfo
come_at s before left = checked (λ i. may_come s before i.number) info_at left

-- items after their count in two bytes, each read by those before it
unfoldable pub counted_at : {A : Type 0} → (List A → Left → Read A) → Left → Read (List A)
counted_at reading left = do
  count ← u16_at left
  each_at reading count.0 [] count.1

-- the change of these parts
abbrev pub made_change : ℕ × ℕ → ℤ × ℕ × ℤ → List ℕ → List TableInfo → Change
made_change place marks removed added = record {
  table = place.0;
  shard = place.1;
  moment = marks.0;
  frontier = marks.1;
  drawn = marks.2;
  removed = removed;
  added = added;
}

-- a change of table files
unfoldable pub change_at : Saying → Left → Read Change
change_at s left = do
  place ← where_at s left
  marks ← marks_at (part_of s place.0.0 place.0.1).frontier place.1
  removed ← counted_at (gone_at (part_of s place.0.0 place.0.1).listed) marks.1
  added ← counted_at (come_at s) removed.1
  Ok (made_change place.0 marks.0 removed.0 added.0, added.1)

-- ---- entries

-- the number of shards
unfoldable pub store_at : Left → Read Entry
store_at left = do
  shards ← checked (is_in_range 1 SHARD_LIMIT) u8_at left
  Ok (entry.Store shards.0, shards.1)

-- the table after those that are defined
unfoldable pub definition_at : Saying → Left → Read Entry
definition_at s left = do
  table ← schema_at s.tables left
  Ok (entry.Schema table.0, table.1)

-- a segment, above all that were named
unfoldable pub new_segment_at : Saying → Left → Read Entry
new_segment_at s left = do
  number ← checked (λ n. nat_lt s.last_segment n && nat_le n SEGMENT_LIMIT) u64_at left
  Ok (entry.NewSegment number.0, number.1)

-- a segment that is listed
unfoldable pub drop_segment_at : Saying → Left → Read Entry
drop_segment_at s left = do
  number ← checked (is_listed s.segments) u64_at left
  Ok (entry.DropSegment number.0, number.1)

-- a change of table files, as an entry
unfoldable pub changing_at : Saying → Left → Read Entry
changing_at s left = do
  change ← change_at s left
  Ok (entry.Change change.0, change.1)

-- columns behind those of the table, where there is one; at most 256 together
abbrev pub behind_at : ℕ → ℕ → Left → Option TableSchema → Read Entry
behind_at place n left None = Err (Bad place)
behind_at place n left (Some t) = do
  columns ← columns_at (COLUMN_LIMIT - length t.columns) false t.columns left
  Ok (entry.AddColumns n columns.0, columns.1)

-- the number of a table, and the columns that it gets
unfoldable pub add_columns_at : Saying → Left → Read Entry
add_columns_at s left = do
  table ← u16_at left
  behind_at left.at table.0 table.1 (slice_get s.tables table.0)

-- the kind of an entry: the store's shards are said once, first
abbrev pub may_be : Saying → ℕ → Bool
may_be s kind = if s.shards == 0 then kind == 1 else is_in_range 2 6 kind

-- what follows the kind
abbrev pub kinded_at : Saying → ℕ → Left → Read Entry
kinded_at s kind left =
    if kind == 1 then store_at left
    else if kind == 2 then definition_at s left
    else if kind == 3 then new_segment_at s left
    else if kind == 4 then drop_segment_at s left
    else if kind == 5 then changing_at s left
    else add_columns_at s left

-- an entry that may follow, how many files it lists aside
unfoldable pub fields_at : Saying → Left → Read Entry
fields_at s left = do
  kind ← checked (may_be s) u8_at left
  kinded_at s kind.0 kind.1

-- an entry that may follow; one after which more than 4,096 files were listed isn't allowed at its first byte
unfoldable pub entry_at : Saying → Left → Read Entry
entry_at s left = checked (λ e. nat_le (listed_after s.listed e) LISTED_LIMIT) (fields_at s) left
