-- Reading what is told of a table file. That this reading takes the spellings and nothing else is a law.
-- Own. The place of a refusal is that of the refused field's first byte.
use Rattle.std.specs.Prelude.{ℕ, ℤ, List, Option, Ok}
use Rattle.std.specs.Int.{is_in_range}
use Rattle.cas_codec.specs.Reading.{Left, Read, ◌>>=◌, checked, u8_at, u32_at, u64_at, i64_at, maybe_at}
use Rattle.cas_records.specs.Reading.{timestamp_at, key_at}
use Rattle.cas_info.specs.declared.info.TheConstants.{FILE_NUMBER_LIMIT, FILE_LIMIT, LAST_LEVEL, PARTITION_LIMIT}
use Rattle.cas_info.specs.declared.info.TableInfo.{TableInfo}

-- the file's number and its length
unfoldable pub sizes_at : Left → Read (ℕ × ℕ)
sizes_at left = do
  number ← checked (is_in_range 1 FILE_NUMBER_LIMIT) u64_at left
  bytes ← checked (is_in_range 0 FILE_LIMIT) u64_at number.1
  Ok ((number.0, bytes.0), bytes.1)

-- its first and its last key
unfoldable pub range_at : Left → Read (List ℕ × List ℕ)
range_at left = do
  first ← key_at left
  last ← key_at first.1
  Ok ((first.0, last.0), last.1)

-- its least and its greatest timestamp, and when the last of it died, if all of it does
unfoldable pub times_of_at : Left → Read (ℤ × ℤ × Option ℤ)
times_of_at left = do
  least ← timestamp_at left
  greatest ← timestamp_at least.1
  dead ← maybe_at i64_at greatest.1
  Ok ((least.0, greatest.0, dead.0), dead.1)

-- its level, and the number of its keys
unfoldable pub rest_at : Left → Read (ℕ × ℕ)
rest_at left = do
  level ← checked (is_in_range 0 LAST_LEVEL) u8_at left
  keys ← checked (is_in_range 1 PARTITION_LIMIT) u32_at level.1
  Ok ((level.0, keys.0), keys.1)

-- the info of these parts
abbrev pub made_info : ℕ × ℕ → List ℕ × List ℕ → ℤ × ℤ × Option ℤ → ℕ × ℕ → TableInfo
made_info sizes range times rest = record {
  number = sizes.0;
  bytes = sizes.1;
  first = range.0;
  last = range.1;
  least = times.0;
  greatest = times.1;
  dead = times.2;
  level = rest.0;
  keys = rest.1;
}

-- what is told of a table file
unfoldable pub info_at : Left → Read TableInfo
info_at left = do
  sizes ← sizes_at left
  range ← range_at sizes.1
  times ← times_of_at range.1
  rest ← rest_at times.1
  Ok (made_info sizes.0 range.0 times.0 rest.0, rest.1)
