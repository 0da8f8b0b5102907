-- How what is told of a table file is spelled as bytes.
-- Own format.
use Rattle.std.specs.Prelude.{ℕ, ℤ, List, Option, ◌++◌}
use Rattle.cas_codec.specs.Fields.{u8, u32, u64, i64, bytes16, maybe}
use Rattle.cas_info.specs.declared.info.TableInfo.{TableInfo}

-- the file's number and its length, eight bytes each
abbrev pub sizes_bytes : ℕ → ℕ → List ℕ
sizes_bytes number bytes = u64 number ++ u64 bytes

-- its first and its last key
abbrev pub range_bytes : List ℕ → List ℕ → List ℕ
range_bytes first last = bytes16 first ++ bytes16 last

-- its least and its greatest timestamp, and when the last of it died, if all of it does
abbrev pub times_bytes : ℤ → ℤ → Option ℤ → List ℕ
times_bytes least greatest dead = i64 least ++ (i64 greatest ++ maybe i64 dead)

-- its level in one byte, and the number of its keys in four
abbrev pub rest_bytes : ℕ → ℕ → List ℕ
rest_bytes level keys = u8 level ++ u32 keys

-- what is told of a table file
abbrev pub info_bytes : TableInfo → List ℕ
info_bytes i = sizes_bytes i.number i.bytes ++ (range_bytes i.first i.last ++ (times_bytes i.least i.greatest i.dead ++ rest_bytes i.level i.keys))
