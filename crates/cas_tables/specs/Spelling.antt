-- How the head of a table file is spelled as bytes.
-- Own format.
use Rattle.std.specs.Prelude.{ℕ, List, ◌++◌}
use Rattle.cas_codec.specs.Fields.{u8, u16, u64}
use Rattle.cas_tables.specs.declared.header.TheConstants.{START_WORD}
use Rattle.cas_fragments.specs.declared.heads.Version.{Version}
use Rattle.cas_tables.specs.declared.header.Header.{Header}
use Rattle.cas_tables.specs.Versions.{version_number}

-- the word CASSTAB1, and the version in two bytes
abbrev pub start_bytes : Version → List ℕ
start_bytes v = u64 START_WORD ++ u16 (version_number v)

-- a header: behind these the table in two bytes, the shard in one and the number of the file in eight
abbrev pub header_bytes : Header → List ℕ
header_bytes h = start_bytes h.version ++ (u16 h.table ++ (u8 h.shard ++ u64 h.number))
