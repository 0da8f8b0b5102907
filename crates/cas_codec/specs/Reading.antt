-- Reading fields from left to right, up to the first that isn't there.
-- Own. The place of a refusal is that of the refused field's first byte.
use Rattle.std.specs.Prelude.{◌≡◌, ℕ, ℤ, ◌+◌, ◌==◌, nat_lt, int_le, ◌&&◌, if◌then◌else◌, Bool, true, false}
use Rattle.std.specs.Prelude.{zero, suc, List, [], ◌∷◌, length, take, drop, Option, None, Some, Result, Ok, Err}
use Rattle.std.specs.Int.{Width, w8, w16, w32, w64, byte_len, from_be_bytes, cast_signed}
use Rattle.cas_codec.specs.declared.fault.ReadFault.{ReadFault}
use Rattle.cas_codec.specs.declared.fault.ReadFault.TheVariants.{Short, Bad, Mem}

-- the bytes that are left to be read, and where in the file the first of them stands
pub record Left : Type 0 where
  pub bytes : List ℕ
  pub at : ℕ

-- a value and what is left after it, or the first fault
abbrev pub Read : Type 0 → Type 0
Read A = Result (A × Left) ReadFault

-- what a step read is given to the next step; a fault ends the reading
infixl 10 ◌>>=◌
abbrev pub ◌>>=◌ : {A B : Type 0} → Result A ReadFault → (A → Result B ReadFault) → Result B ReadFault
(Ok x) >>= f = f x
(Err e) >>= f = Err e

-- the next n bytes; where fewer are left, the field at place is short
unfoldable pub bytes_at : ℕ → ℕ → Left → Read (List ℕ)
bytes_at place n left =
    if nat_lt (length left.bytes) n then Err (Short place)
    else Ok (take n left.bytes, record { bytes = drop n left.bytes; at = left.at + n })

-- the number that the next bytes spell, the most significant first
unfoldable pub unsigned_at : Width → Left → Read ℕ
unsigned_at w left = do
  front ← bytes_at left.at (byte_len w) left
  Ok (from_be_bytes w front.0, front.1)

-- a number of one byte
unfoldable pub u8_at : Left → Read ℕ
u8_at left = unsigned_at w8 left

-- a number of two bytes, as the length of a key
unfoldable pub u16_at : Left → Read ℕ
u16_at left = unsigned_at w16 left

-- a number of four bytes, as the length of a record
unfoldable pub u32_at : Left → Read ℕ
u32_at left = unsigned_at w32 left

-- a number of eight bytes, as the number of a mutation
unfoldable pub u64_at : Left → Read ℕ
u64_at left = unsigned_at w64 left

-- a signed number, from its two's complement
unfoldable pub i64_at : Left → Read ℤ
i64_at left = do
  number ← u64_at left
  Ok (cast_signed w64 number.0, number.1)

-- bytes after their number; where too few follow it, the field is short at the number's first byte
unfoldable pub bytes16_at : Left → Read (List ℕ)
bytes16_at left = do
  count ← u16_at left
  bytes_at left.at count.0 count.1

-- the same after a number of four bytes
unfoldable pub bytes32_at : Left → Read (List ℕ)
bytes32_at left = do
  count ← u32_at left
  bytes_at left.at count.0 count.1

-- a field whose value passes the test; another value isn't allowed there
unfoldable pub checked : {A : Type 0} → (A → Bool) → (Left → Read A) → Left → Read A
checked test reading left = do
  found ← reading left
  if test found.0 then Ok found else Err (Bad left.at)

-- a signed number from least to greatest
abbrev pub is_within : ℤ → ℤ → ℤ → Bool
is_within least greatest z = int_le least z && int_le z greatest

-- yes or no: a byte above 1 isn't allowed there
unfoldable pub flag_at : Left → Read Bool
flag_at left = do
  byte ← checked (λ b. nat_lt b 2) u8_at left
  Ok (byte.0 == 1, byte.1)

-- what follows a flag: nothing after a no, a value after a yes
abbrev pub there_at : {A : Type 0} → (Left → Read A) → Bool → Left → Read (Option A)
there_at reading false left = Ok (None, left)
there_at reading true left = do
  found ← reading left
  Ok (Some found.0, found.1)

-- a value that may be there; where it is short, the place is its own
unfoldable pub maybe_at : {A : Type 0} → (Left → Read A) → Left → Read (Option A)
maybe_at reading left = do
  there ← flag_at left
  there_at reading there.0 there.1

-- so many items, one after another
unfoldable pub times_at : {A : Type 0} → ℕ → (Left → Read A) → Left → Read (List A)
times_at zero reading left = Ok ([], left)
times_at (suc n) reading left = do
  first ← reading left
  others ← times_at n reading first.1
  Ok (first.0 ∷ others.0, others.1)

-- what fills the bytes that follow their number of four bytes, as a record of the commit log does; a byte behind it isn't allowed there
unfoldable pub enclosed_at : {A : Type 0} → (Left → Read A) → Left → Read A
enclosed_at reading left = do
  bytes ← bytes32_at left
  found ← reading (record { bytes = bytes.0; at = left.at + 4 })
  if length found.1.bytes == 0 then Ok (found.0, bytes.1) else Err (Bad found.1.at)

-- How a reader ends that then stands at new, its value seen by view: as the reading does, unless memory ran out.
abbrev pub Gives : {X Y : Type 0} → (X → Y) → Result X ReadFault → Left → Read Y → Type 0
Gives view (Ok x) new read = read ≡ Ok (view x, new)
Gives view (Err (Short at)) new read = read ≡ Err (Short at)
Gives view (Err (Bad at)) new read = read ≡ Err (Bad at)
Gives view (Err Mem) new read = Unit {0}
