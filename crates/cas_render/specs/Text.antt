-- What the program prints of a reply.
-- CQL documentation, "Definitions: constants" and "Data types: working with maps, sets, lists"; the lines round them are own.
use Rattle.std.specs.Prelude.{ℕ, ◌==◌, ℤ, List, [], ◌∷◌, ◌++◌, length, codes, Option, None, Some, if◌then◌else◌}
use Rattle.std.specs.List.{flat_map, join_by}
use Rattle.std.specs.Int.{w8, w16, w32, w64}
use Rattle.std.specs.Fmt.{decimal, signed_decimal}
use Rattle.hex.specs.Hex.{encode_lower}
use Rattle.uuid.specs.Text.{hyphenated_text, lower}
use Rattle.cas_types.specs.Values.{signed_number, day_number, is_value}
use Rattle.cas_types.specs.declared.tag.TypeTag.{TypeTag}
use Rattle.cas_types.specs.declared.tag.TypeTag.TheVariants as tag
use Rattle.cas_atoms.specs.Coordinates.{same_bytes}
use Rattle.cas_atoms.specs.declared.query.Datum.{Datum}
use Rattle.cas_atoms.specs.declared.query.Datum.TheVariants as datum
use Rattle.cas_atoms.specs.declared.query.LiveRow.{LiveRow}
use Rattle.cas_render.specs.declared.reply.Failure.{Failure}
use Rattle.cas_render.specs.declared.reply.Failure.TheVariants as failure
use Rattle.cas_render.specs.declared.reply.Listed.{Listed}
use Rattle.cas_render.specs.declared.reply.Reply.{Reply}
use Rattle.cas_render.specs.declared.reply.Reply.TheVariants as reply
use Rattle.cas_render.specs.declared.reply.Verdict.{Verdict}

-- a byte of a text, a quote twice
abbrev pub quoted_byte : ℕ → List ℕ
quoted_byte b = if b == 39 then 39 ∷ 39 ∷ [] else b ∷ []

-- a text stands in quotes: 'it''s'
abbrev pub quoted : List ℕ → List ℕ
quoted bytes = codes "'" ++ flat_map quoted_byte bytes ++ codes "'"

-- a blob is 0x and two hexadecimal digits a byte, the letters small (own)
abbrev pub blob_text : List ℕ → List ℕ
blob_text bytes = codes "0x" ++ encode_lower bytes

-- a boolean is true where its byte is 1; the words are small (own)
abbrev pub boolean_text : List ℕ → List ℕ
boolean_text bytes = if same_bytes bytes (1 ∷ []) then codes "true" else codes "false"

-- a number with its sign: -12, 7; only bytes that are no value of the type have none
abbrev pub number_text : Option ℤ → List ℕ
number_text None = []
number_text (Some n) = signed_decimal n

-- a date is the number of its day, which has no sign: 2147483648 is 1970-01-01 (own); only bytes that are no value have none
abbrev pub day_text : Option ℕ → List ℕ
day_text None = []
day_text (Some n) = decimal n

-- the constant that a statement would write the value as; time and timestamp are numbers (own), uuids have small letters (own)
abbrev pub constant_text : TypeTag → List ℕ → List ℕ
constant_text tag.Ascii bytes = quoted bytes
constant_text tag.BigInt bytes = number_text (signed_number w64 bytes)
constant_text tag.Blob bytes = blob_text bytes
constant_text tag.Boolean bytes = boolean_text bytes
constant_text tag.Date bytes = day_text (day_number bytes)
constant_text tag.Int bytes = number_text (signed_number w32 bytes)
constant_text tag.SmallInt bytes = number_text (signed_number w16 bytes)
constant_text tag.Text bytes = quoted bytes
constant_text tag.Time bytes = number_text (signed_number w64 bytes)
constant_text tag.Timestamp bytes = number_text (signed_number w64 bytes)
constant_text tag.TimeUuid bytes = hyphenated_text lower bytes
constant_text tag.TinyInt bytes = number_text (signed_number w8 bytes)
constant_text tag.Uuid bytes = hyphenated_text lower bytes

-- bytes that are no value of the type are written as a blob, so that nothing is hidden (own)
unfoldable pub value_text : TypeTag → List ℕ → List ℕ
value_text tag bytes = if is_value tag bytes then constant_text tag bytes else blob_text bytes

-- an entry of a map: its key, a colon and its value, 'a': 1
abbrev pub entry_text : TypeTag → TypeTag → List ℕ × List ℕ → List ℕ
entry_text keys values entry = value_text keys entry.0 ++ codes ": " ++ value_text values entry.1

-- what a column shows: null, a writetime or ttl, a value, a set {a, b}, a list [a, b], a map {k: v, l: w}
unfoldable pub datum_text : Datum → List ℕ
datum_text datum.Null = codes "null"
datum_text (datum.Number n) = signed_decimal n
datum_text (datum.One t bytes) = value_text t bytes
datum_text (datum.Set t values) = codes "{" ++ join_by (value_text t) (codes ", ") values ++ codes "}"
datum_text (datum.List t values) = codes "[" ++ join_by (value_text t) (codes ", ") values ++ codes "]"
datum_text (datum.Map t u entries) = codes "{" ++ join_by (entry_text t u) (codes ", ") entries ++ codes "}"

-- a row is a line, its values with bars between them: 1 | 2 | 'a'
unfoldable pub row_text : LiveRow → List ℕ
row_text row = join_by datum_text (codes " | ") row.values ++ codes "\n"

-- the line after a slice's rows, -- 2 rows, shard 0, front 4, now 0: how many there are, of which shard, up to which mutation, at which second
unfoldable pub trailer : ℕ → ℕ → ℕ → ℤ → List ℕ
trailer rows shard front now =
    codes "-- " ++ decimal rows ++ codes " rows, shard " ++ decimal shard ++ codes ", front " ++ decimal front
    ++ codes ", now " ++ signed_decimal now ++ codes "\n"

-- a failure is a line that names its kind
abbrev pub failure_text : Failure → List ℕ
failure_text failure.Memory = codes "failed memory\n"
failure_text failure.Stopped = codes "failed stopped\n"
failure_text failure.Disk = codes "failed disk\n"
failure_text failure.Read = codes "failed read\n"
failure_text (failure.Block number at) = codes "failed block\n"

-- a number behind a blank
abbrev pub further_number : ℕ → List ℕ
further_number n = codes " " ++ decimal n

-- a table in a shard is a line, with the numbers of its files there: t shard 0: 1 2
unfoldable pub listed_text : Listed → List ℕ
listed_text l = l.table ++ codes " shard " ++ decimal l.shard ++ codes ":" ++ flat_map further_number l.files ++ codes "\n"

-- what was found of a file: it is good, or bad at a place
abbrev pub found_text : Option ℕ → List ℕ
found_text None = codes " good"
found_text (Some at) = codes " bad at " ++ decimal at

-- a file that was checked is a line: 1 good, or 2 bad at 32
unfoldable pub verdict_text : Verdict → List ℕ
verdict_text v = decimal v.number ++ found_text v.bad ++ codes "\n"

-- the files that were checked, or that there is nothing to check
abbrev pub verified_text : List Verdict → List ℕ
verified_text [] = codes "nothing\n"
verified_text (v ∷ vs) = flat_map verdict_text (v ∷ vs)

-- what is printed of the answer to a line of the script
unfoldable pub reply_text : Reply → List ℕ
reply_text reply.Done = codes "ok\n"
reply_text (reply.Wrote number) = codes "ok " ++ decimal number ++ codes "\n"
reply_text (reply.Rows rows shard front now) = flat_map row_text rows ++ trailer (length rows) shard front now
reply_text (reply.Flushed files) = codes "flushed" ++ flat_map further_number files ++ codes "\n"
reply_text (reply.Verified files) = verified_text files
reply_text (reply.Status tables) = flat_map listed_text tables
reply_text (reply.Refused number) = codes "refused S" ++ decimal number ++ codes "\n"
reply_text (reply.Failed failure) = failure_text failure
