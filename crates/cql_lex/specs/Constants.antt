-- Names, uuids and blobs, as texts and as values.
-- CQL documentation, "Definitions: identifiers and keywords, constants" (uuid, blob).
use Rattle.std.specs.Prelude.{ℕ, Bool, ◌&&◌, ◌||◌, List, map, drop, Option, None, Some, if◌then◌else◌}
use Rattle.std.specs.List.{list_all}
use Rattle.std.specs.Result.{result_ok}
use Rattle.std.specs.Char.{is_ascii_alphabetic, to_ascii_lowercase}
use Rattle.hex.specs.Hex.{decode_of}
use Rattle.uuid.specs.Text.{parsed_hyphenated}
use Rattle.cql_lex.specs.Characters.{is_word, first_is, begins_pair}

-- a letter, and then letters, digits and `_`: `Ab_1`; `1a`, `_a` and `a-b` are none
abbrev pub is_name : List ℕ → Bool
is_name text = first_is is_ascii_alphabetic text && list_all is_word text

-- a name without regard to case: `Ab_1` is `ab_1`
abbrev pub name_value : List ℕ → Option (List ℕ)
name_value text = if is_name text then Some (map to_ascii_lowercase text) else None

-- 16 bytes as hexadecimal digits, in groups of 8, 4, 4, 4 and 12 with a hyphen between
abbrev pub uuid_value : List ℕ → Option (List ℕ)
uuid_value text = parsed_hyphenated text

-- `0x` or `0X`
abbrev pub begins_blob : List ℕ → Bool
begins_blob text = begins_pair 48 120 text || begins_pair 48 88 text

-- `0x`, and two hexadecimal digits for each byte: `0x0Aff`; `0xa` is none
abbrev pub blob_value : List ℕ → Option (List ℕ)
blob_value text = if begins_blob text then result_ok (decode_of (drop 2 text)) else None
