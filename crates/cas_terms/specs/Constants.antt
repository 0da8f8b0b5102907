-- The bytes that a constant is as a value of a type, and none where it is no value of it.
-- CQL documentation, "Data types: native types; constants"; the bytes are own.
use Rattle.std.specs.Prelude.{ℕ, ℤ, pos, ◌-ℤ◌, ◌-◌, ◌^◌, ◌==◌, length, int_le, Bool, true, false, ◌&&◌, List, [], ◌∷◌, Option, None, Some, if◌then◌else◌}
use Rattle.std.specs.Bool.{then_some}
use Rattle.std.specs.Str.{is_utf8}
use Rattle.std.specs.Int.{Width, w8, w16, w32, w64, cast_unsigned, to_be_bytes}
use Rattle.cas_types.specs.declared.limits.TheConstants.{LAST_NANOSECOND}
use Rattle.cas_types.specs.Values.{is_ascii_text, is_version_one, uuid_version}
use Rattle.cas_types.specs.declared.tag.TypeTag.{TypeTag}
use Rattle.cas_types.specs.declared.tag.TypeTag.TheVariants.{Ascii, BigInt, Blob, Boolean, Date, Int, SmallInt, Text, Time, Timestamp, TimeUuid, TinyInt, Uuid}
use Rattle.cql_parse.specs.declared.term.Constant.{Constant}
use Rattle.cql_parse.specs.declared.term.Constant.TheVariants as constant

-- neither below the least nor above the greatest
abbrev pub is_in_range : ℤ → ℤ → ℤ → Bool
is_in_range least greatest n = int_le least n && int_le n greatest

-- a signed number in the width of its type, most significant byte first, where it fits: of a tinyint -1 is the byte ff, and 128 is no value
abbrev pub signed_bytes : Width → ℕ → ℤ → Option (List ℕ)
signed_bytes w half n = then_some (is_in_range (pos 0 -ℤ pos half) (pos half -ℤ pos 1) n) (to_be_bytes w (cast_unsigned w n))

-- a number from 0 to the greatest one, most significant byte first
abbrev pub unsigned_bytes : Width → ℕ → ℤ → Option (List ℕ)
unsigned_bytes w greatest n = then_some (is_in_range (pos 0) (pos greatest) n) (to_be_bytes w (cast_unsigned w n))

-- the value of `'..'` is its UTF-8 bytes, as a text, and as an ascii where each of them is ASCII
unfoldable pub text_bytes : TypeTag → List ℕ → Option (List ℕ)
text_bytes Ascii t = then_some (is_ascii_text t) t
text_bytes Text t = then_some (is_utf8 t) t
text_bytes _ t = None

-- a whole number is a signed number of the type's width; as a date it is the number of a day, of which 2^31 is 1970-01-01; as a time the nanosecond of a day
unfoldable pub number_bytes : TypeTag → ℤ → Option (List ℕ)
number_bytes TinyInt n = signed_bytes w8 (2 ^ 7) n
number_bytes SmallInt n = signed_bytes w16 (2 ^ 15) n
number_bytes Int n = signed_bytes w32 (2 ^ 31) n
number_bytes BigInt n = signed_bytes w64 (2 ^ 63) n
number_bytes Timestamp n = signed_bytes w64 (2 ^ 63) n
number_bytes Date n = unsigned_bytes w32 (2 ^ 32 - 1) n
number_bytes Time n = unsigned_bytes w64 LAST_NANOSECOND n
number_bytes _ n = None

-- `0x0aff` is a blob of its two bytes, and a value of no other type
unfoldable pub blob_bytes : TypeTag → List ℕ → Option (List ℕ)
blob_bytes Blob b = Some b
blob_bytes _ b = None

-- a uuid is its sixteen bytes, and a timeuuid where its version is 1
unfoldable pub uuid_bytes : TypeTag → List ℕ → Option (List ℕ)
uuid_bytes Uuid u = then_some (length u == 16) u
uuid_bytes TimeUuid u = then_some (is_version_one (uuid_version u)) u
uuid_bytes _ u = None

-- `false` is the byte 0, `true` the byte 1
unfoldable pub boolean_bytes : TypeTag → Bool → Option (List ℕ)
boolean_bytes Boolean b = Some ((if b then 1 else 0) ∷ [])
boolean_bytes _ b = None

-- the bytes of the constant as a value of the type, and none where it is no value of it, as `1` of a text
unfoldable pub constant_bytes : TypeTag → Constant → Option (List ℕ)
constant_bytes tag (constant.Text t) = text_bytes tag t
constant_bytes tag (constant.Number n) = number_bytes tag n
constant_bytes tag (constant.Blob b) = blob_bytes tag b
constant_bytes tag (constant.Uuid u) = uuid_bytes tag u
constant_bytes tag (constant.Boolean b) = boolean_bytes tag b

-- the value is there and has no bytes, as that of `''` or `0x`
abbrev pub gives_no_bytes : Option (List ℕ) → Bool
gives_no_bytes None = false
gives_no_bytes (Some []) = true
gives_no_bytes (Some (b ∷ bs)) = false
