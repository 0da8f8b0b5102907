-- Reading the head of a table file. That this reading takes the spellings and nothing else is a law.
-- Own. The place of a refusal is that of the refused field's first byte.
use Rattle.std.specs.Prelude.{ℕ, Ok}
use Rattle.std.specs.Int.{is_in_range}
use Rattle.cas_codec.specs.Reading.{Left, Read, ◌>>=◌, checked, u8_at, u16_at, u64_at}
use Rattle.cas_info.specs.declared.info.TheConstants.{FILE_NUMBER_LIMIT}
use Rattle.cas_tables.specs.declared.header.TheConstants.{START_WORD, FIRST_VERSION, LAST_VERSION, LAST_SHARD}
use Rattle.cas_fragments.specs.declared.heads.Version.{Version}
use Rattle.cas_tables.specs.declared.header.Header.{Header}
use Rattle.cas_tables.specs.Versions.{version_of}

-- a version that there is
unfoldable pub version_at : Left → Read Version
version_at left = do
  number ← checked (is_in_range FIRST_VERSION LAST_VERSION) u16_at left
  Ok (version_of number.0, number.1)

-- the word that tells a table file, and the version
unfoldable pub start_at : Left → Read Version
start_at left = do
  word ← checked (is_in_range START_WORD START_WORD) u64_at left
  version_at word.1

-- the head of a table file
unfoldable pub header_at : Left → Read Header
header_at left = do
  version ← start_at left
  table ← u16_at version.1
  shard ← checked (is_in_range 0 LAST_SHARD) u8_at table.1
  number ← checked (is_in_range 1 FILE_NUMBER_LIMIT) u64_at shard.1
  Ok (record { version = version.0; table = table.0; shard = shard.0; number = number.0 }, number.1)

-- the head of the file of this number, of this table and this shard: another value isn't allowed where one of them stands
unfoldable pub header_of_at : ℕ → ℕ → ℕ → Left → Read Version
header_of_at table shard number left = do
  version ← start_at left
  of ← checked (is_in_range table table) u16_at version.1
  part ← checked (is_in_range shard shard) u8_at of.1
  file ← checked (is_in_range number number) u64_at part.1
  Ok (version.0, file.1)
