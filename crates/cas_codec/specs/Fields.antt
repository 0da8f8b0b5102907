-- The fields that the files are made of, and the one spelling of each value.
-- Own format. The most significant byte of a number comes first.
use Rattle.std.specs.Prelude.{ℕ, ℤ, Bool, true, false, List, [], ◌∷◌, ◌++◌, length, Option, None, Some}
use Rattle.std.specs.Int.{w16, w32, w64, to_be_bytes, cast_unsigned}

-- a number below 256 is one byte
unfoldable pub u8 : ℕ → List ℕ
u8 n = n ∷ []

-- a number below 2^16 has two bytes: 258 is 01 02
unfoldable pub u16 : ℕ → List ℕ
u16 n = to_be_bytes w16 n

-- a number below 2^32 has four
unfoldable pub u32 : ℕ → List ℕ
u32 n = to_be_bytes w32 n

-- a number below 2^64 has eight
unfoldable pub u64 : ℕ → List ℕ
u64 n = to_be_bytes w64 n

-- a signed number has eight bytes, in two's complement: -1 is ff ff ff ff ff ff ff ff
unfoldable pub i64 : ℤ → List ℕ
i64 z = u64 (cast_unsigned w64 z)

-- at most 65,535 bytes: their number in two bytes, and they: "hi" is 00 02 68 69
unfoldable pub bytes16 : List ℕ → List ℕ
bytes16 bytes = u16 (length bytes) ++ bytes

-- fewer than 2^32 bytes: their number in four bytes, and they
unfoldable pub bytes32 : List ℕ → List ℕ
bytes32 bytes = u32 (length bytes) ++ bytes

-- no is 00, yes is 01
abbrev pub flag : Bool → List ℕ
flag false = u8 0
flag true = u8 1

-- nothing is 00; a value is 01 and its spelling
abbrev pub maybe : {A : Type 0} → (A → List ℕ) → Option A → List ℕ
maybe spelling None = flag false
maybe spelling (Some x) = flag true ++ spelling x
