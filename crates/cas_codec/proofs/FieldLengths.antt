-- How many bytes a field has.
use Rattle.std.proofs.Common.{◌≡◌, ℕ, ℤ, ◌+◌, ◌≤◌, Bool, true, false, List, length, Option, None, Some, refl, arith}
use Rattle.std.proofs.lemmas.List.{length-append}
use Rattle.cas_codec.specs.Fields.{u8, u16, u32, u64, i64, bytes16, bytes32, flag, maybe}

pub u8_long : (n : ℕ) → length (u8 n) ≡ 1
unfolding u8
u8_long n = refl

pub u16_long : (n : ℕ) → length (u16 n) ≡ 2
unfolding u16
u16_long n = refl

pub u32_long : (n : ℕ) → length (u32 n) ≡ 4
unfolding u32
u32_long n = refl

pub u64_long : (n : ℕ) → length (u64 n) ≡ 8
unfolding u64
u64_long n = refl

pub i64_long : (z : ℤ) → length (i64 z) ≡ 8
unfolding i64 u64
i64_long z = refl

pub flag_long : (b : Bool) → length (flag b) ≡ 1
flag_long false = u8_long 0
flag_long true = u8_long 1

pub bytes16_long : (bytes : List ℕ) → length (bytes16 bytes) ≡ 2 + length bytes
unfolding bytes16
bytes16_long bytes = omega (arith, length-append (u16 (length bytes)) bytes, u16_long (length bytes))

pub bytes32_long : (bytes : List ℕ) → length (bytes32 bytes) ≡ 4 + length bytes
unfolding bytes32
bytes32_long bytes = omega (arith, length-append (u32 (length bytes)) bytes, u32_long (length bytes))

pub maybe_long : (o : Option ℤ) → length (maybe i64 o) ≤ 9
maybe_long None = omega (arith, flag_long false)
maybe_long (Some z) = omega (arith, length-append (flag true) (i64 z), flag_long true, i64_long z)
