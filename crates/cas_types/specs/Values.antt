-- The values of the native types, as bytes, and their order.
-- CQL documentation, "Data types: native types"; the order of uuids and the bytes of a value are own.
use Rattle.std.specs.Prelude.{ℕ, ◌==◌, ℤ, Bool, true, false, ◌&&◌, ◌||◌, nat_lt, nat_le}
use Rattle.std.specs.Prelude.{List, [], ◌∷◌, length, slice_index, Option, None, Some, if◌then◌else◌, ◌/◌, ◌%◌}
use Rattle.std.specs.List.{list_all}
use Rattle.std.specs.Option.{option_cmp}
use Rattle.std.specs.Int.{Width, w8, w16, w32, w64, byte_len, from_be_bytes, cast_signed}
use Rattle.std.specs.Str.{is_utf8}
use Rattle.std.specs.Ordering.{nat_cmp, int_cmp, on, then_cmp}
use Rattle.std.specs.Cmp.Lexicographic.{slice_cmp}
use Rattle.std.specs.declared.cmp.Ordering.{Ordering}
use Rattle.cas_types.specs.declared.limits.TheConstants.{LAST_NANOSECOND}
use Rattle.cas_types.specs.declared.tag.TypeTag.{TypeTag}
use Rattle.cas_types.specs.declared.tag.TypeTag.TheVariants.{Ascii, BigInt, Blob, Boolean, Date, Int, SmallInt, Text, Time, Timestamp, TimeUuid, TinyInt, Uuid}

-- byte strings by unsigned bytes; a front of another is below it
abbrev pub bytes_cmp : List ℕ → List ℕ → Ordering
bytes_cmp = slice_cmp nat_cmp

-- the signed number that bytes of exactly the width are, most significant byte first; other bytes are none
abbrev pub signed_number : Width → List ℕ → Option ℤ
signed_number w bytes = if length bytes == byte_len w then Some (cast_signed w (from_be_bytes w bytes)) else None

-- the number of a day that four bytes are; 2^31 is 1970-01-01
abbrev pub day_number : List ℕ → Option ℕ
day_number bytes = if length bytes == 4 then Some (from_be_bytes w32 bytes) else None

-- the version number of a uuid is the upper half of byte 6
abbrev pub uuid_version : List ℕ → Option ℕ
uuid_version bytes = if length bytes == 16 then Some (slice_index bytes 6 / 16) else None

-- version 1, which is the version of every `timeuuid`
abbrev pub is_version_one : Option ℕ → Bool
is_version_one None = false
is_version_one (Some v) = v == 1

-- the time of a uuid of version 1, in steps of 100 nanoseconds: the low 12 bits of bytes 6 and 7, then bytes 4 and 5, then bytes 0 to 3
abbrev pub uuid_time : List ℕ → Option ℕ
uuid_time bytes =
    if is_version_one (uuid_version bytes) then
    Some (from_be_bytes w64 (slice_index bytes 6 % 16 ∷ slice_index bytes 7 ∷ slice_index bytes 4 ∷ slice_index bytes 5
    ∷ slice_index bytes 0 ∷ slice_index bytes 1 ∷ slice_index bytes 2 ∷ slice_index bytes 3 ∷ []))
    else None

-- an `ascii` text: each byte is below 128
abbrev pub is_ascii_text : List ℕ → Bool
is_ascii_text bytes = list_all (λ b. nat_lt b 128) bytes

-- a `time`: eight bytes that are a number of nanoseconds, from 0 to the last of a day
abbrev pub is_time : List ℕ → Bool
is_time bytes = (length bytes == 8) && nat_le (from_be_bytes w64 bytes) LAST_NANOSECOND

-- a `boolean`: false is the byte 0, true the byte 1
abbrev pub is_boolean : List ℕ → Bool
is_boolean (b ∷ []) = (b == 0) || (b == 1)
is_boolean _ = false

-- the bytes are a value of the type; of no type but `ascii`, `blob` and `text` may they be empty
abbrev pub is_value : TypeTag → List ℕ → Bool
is_value Ascii bytes = is_ascii_text bytes
is_value BigInt bytes = length bytes == 8
is_value Blob bytes = true
is_value Boolean bytes = is_boolean bytes
is_value Date bytes = length bytes == 4
is_value Int bytes = length bytes == 4
is_value SmallInt bytes = length bytes == 2
is_value Text bytes = is_utf8 bytes
is_value Time bytes = is_time bytes
is_value Timestamp bytes = length bytes == 8
is_value TimeUuid bytes = is_version_one (uuid_version bytes)
is_value TinyInt bytes = length bytes == 1
is_value Uuid bytes = length bytes == 16

-- by the number that the bytes are, and then by the bytes; what is no number stands below, so that all byte strings have a place
abbrev pub by_number : Width → List ℕ → List ℕ → Ordering
by_number w = then_cmp (on (signed_number w) (option_cmp int_cmp)) bytes_cmp

-- dates by their day, and then by the bytes
abbrev pub by_day : List ℕ → List ℕ → Ordering
by_day = then_cmp (on day_number (option_cmp nat_cmp)) bytes_cmp

-- uuids by version, then those of version 1 by their time, then by the bytes
abbrev pub by_version : List ℕ → List ℕ → Ordering
by_version = then_cmp (on uuid_version (option_cmp nat_cmp)) (then_cmp (on uuid_time (option_cmp nat_cmp)) bytes_cmp)

-- the order of two values of the type: numbers and moments by size, texts and blobs by unsigned bytes, `false` below `true`
abbrev pub value_cmp : TypeTag → List ℕ → List ℕ → Ordering
value_cmp Ascii = bytes_cmp
value_cmp BigInt = by_number w64
value_cmp Blob = bytes_cmp
value_cmp Boolean = bytes_cmp
value_cmp Date = by_day
value_cmp Int = by_number w32
value_cmp SmallInt = by_number w16
value_cmp Text = bytes_cmp
value_cmp Time = by_number w64
value_cmp Timestamp = by_number w64
value_cmp TimeUuid = by_version
value_cmp TinyInt = by_number w8
value_cmp Uuid = by_version
