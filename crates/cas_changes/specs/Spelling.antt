-- How the entries of the manifest are spelled as bytes: each has one spelling.
-- Own format.
use Rattle.std.specs.Prelude.{ℕ, ℤ, List, ◌++◌, length}
use Rattle.std.specs.List.{flat_map}
use Rattle.cas_codec.specs.Fields.{u8, u16, u64, i64}
use Rattle.cas_info.specs.declared.info.TableInfo.{TableInfo}
use Rattle.cas_info.specs.Spelling.{info_bytes}
use Rattle.cas_schemas.specs.Spelling.{columns_bytes, schema_bytes}
use Rattle.cas_changes.specs.declared.entry.Change.{Change}
use Rattle.cas_changes.specs.declared.entry.Entry.{Entry}
use Rattle.cas_changes.specs.declared.entry.Entry.TheVariants as entry

-- the number of a table and a shard
abbrev pub where_bytes : ℕ → ℕ → List ℕ
where_bytes table shard = u16 table ++ u8 shard

-- the shard's last moment, the frontier and the last drawn timestamp, eight bytes each
abbrev pub marks_bytes : ℤ → ℕ → ℤ → List ℕ
marks_bytes moment frontier drawn = i64 moment ++ (u64 frontier ++ i64 drawn)

-- the numbers of the removed files, after their count in two bytes
abbrev pub removed_bytes : List ℕ → List ℕ
removed_bytes numbers = u16 (length numbers) ++ flat_map u64 numbers

-- what is told of each added file, after their count in two bytes
abbrev pub added_bytes : List TableInfo → List ℕ
added_bytes infos = u16 (length infos) ++ flat_map info_bytes infos

-- a change of the table files of a table in a shard
abbrev pub change_bytes : Change → List ℕ
change_bytes c = where_bytes c.table c.shard ++ (marks_bytes c.moment c.frontier c.drawn ++ (removed_bytes c.removed ++ added_bytes c.added))

-- an entry: its kind in one byte, and what it tells
abbrev pub entry_bytes : Entry → List ℕ
entry_bytes (entry.Store shards) = u8 1 ++ u8 shards
entry_bytes (entry.Schema table) = u8 2 ++ schema_bytes table
entry_bytes (entry.NewSegment number) = u8 3 ++ u64 number
entry_bytes (entry.DropSegment number) = u8 4 ++ u64 number
entry_bytes (entry.Change c) = u8 5 ++ change_bytes c
entry_bytes (entry.AddColumns table columns) = u8 6 ++ (u16 table ++ columns_bytes columns)
