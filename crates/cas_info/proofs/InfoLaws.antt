-- What is told of a table file is read exactly.
use Rattle.std.proofs.Common.{◌≡◌, ℕ, ℤ, ◌<◌, ◌≤◌, ◌^◌, leb, true, List, Option, refl, arith}
use Rattle.std.specs.Prelude.{IfSome, FitsSigned}
use Rattle.std.specs.Int.{w64, is_in_range}
use Rattle.std.proofs.lemmas.Bool.{leb-true, le-leb, and_parts, and_from}
use Rattle.cas_codec.specs.Reading.{checked, u8_at, u32_at, u64_at, i64_at, maybe_at}
use Rattle.cas_codec.specs.Fields.{u8, u32, u64, i64, bytes16, maybe}
use Rattle.cas_codec.specs.Exact.{IsExact}
use Rattle.cas_codec.proofs.Exactness.{exact_checked}
use Rattle.cas_codec.proofs.FieldLaws.{u8_field, u32_field, u64_field, maybe_i64_exact}
use Rattle.cas_codec.proofs.Sequences.{exact_two, exact_three, exact_four}
use Rattle.cas_atoms.specs.Fits.{FitsKey, FitsTimestamp}
use Rattle.cas_records.specs.Reading.{timestamp_at, key_at}
use Rattle.cas_records.proofs.CellLaws.{timestamp_exact, key_exact}
use Rattle.cas_info.specs.declared.info.TheConstants.{FILE_NUMBER_LIMIT, FILE_LIMIT, LAST_LEVEL, PARTITION_LIMIT}
use Rattle.cas_info.specs.Spelling.{sizes_bytes, range_bytes, times_bytes, rest_bytes, info_bytes}
use Rattle.cas_info.specs.Reading.{sizes_at, range_at, times_of_at, rest_at, made_info, info_at}
use Rattle.cas_info.specs.Allowed.{FitsInfo}

-- a number of that width, from least to greatest
abbrev IsBetween : ℕ → ℕ → ℕ → ℕ → Type 0
IsBetween limit least greatest n = (n < limit) × (is_in_range least greatest n ≡ true)

parts : (least greatest n : ℕ) → is_in_range least greatest n ≡ true → (least ≤ n) × (n ≤ greatest)
parts least greatest n e =
    let p = and_parts (leb least n) (leb n greatest) e in
    (leb-true least n p.0, leb-true n greatest p.1)

between : (least greatest n : ℕ) → least ≤ n → n ≤ greatest → is_in_range least greatest n ≡ true
between least greatest n low high = and_from (leb least n) (leb n greatest) (le-leb least n low) (le-leb n greatest high)

abbrev AreSizes : ℕ × ℕ → Type 0
AreSizes s = IsBetween (2 ^ 64) 1 FILE_NUMBER_LIMIT s.0 × IsBetween (2 ^ 64) 0 FILE_LIMIT s.1

sizes_exact : IsExact AreSizes (λ s. sizes_bytes s.0 s.1) sizes_at
unfolding sizes_at
sizes_exact =
    exact_two (IsBetween (2 ^ 64) 1 FILE_NUMBER_LIMIT) u64 (checked (is_in_range 1 FILE_NUMBER_LIMIT) u64_at) (λ n b. IsBetween (2 ^ 64) 0 FILE_LIMIT b) u64
    (λ n. checked (is_in_range 0 FILE_LIMIT) u64_at) AreSizes (λ s. sizes_bytes s.0 s.1) (λ n b. (n, b))
    (exact_checked (λ n. n < 2 ^ 64) u64 u64_at (is_in_range 1 FILE_NUMBER_LIMIT) u64_field.exact)
    (λ n fit. exact_checked (λ n. n < 2 ^ 64) u64 u64_at (is_in_range 0 FILE_LIMIT) u64_field.exact)
    (λ n b fit-n fit-b. ((fit-n, fit-b), refl))
    (λ s fit. (s.0, s.1, fit.0, fit.1, refl))

abbrev AreKeys : List ℕ × List ℕ → Type 0
AreKeys r = FitsKey r.0 × FitsKey r.1

range_exact : IsExact AreKeys (λ r. range_bytes r.0 r.1) range_at
unfolding range_at
range_exact =
    exact_two FitsKey bytes16 key_at (λ a b. FitsKey b) bytes16 (λ a. key_at) AreKeys (λ r. range_bytes r.0 r.1) (λ a b. (a, b))
    key_exact (λ a fit. key_exact)
    (λ a b fit-a fit-b. ((fit-a, fit-b), refl))
    (λ r fit. (r.0, r.1, fit.0, fit.1, refl))

abbrev AreTimes : ℤ × ℤ × Option ℤ → Type 0
AreTimes t = FitsTimestamp t.0 × FitsTimestamp t.1 × IfSome t.2 (FitsSigned w64)

times_exact : IsExact AreTimes (λ t. times_bytes t.0 t.1 t.2) times_of_at
unfolding times_of_at
times_exact =
    exact_three FitsTimestamp i64 timestamp_at (λ a b. FitsTimestamp b) i64 (λ a. timestamp_at) (λ a b d. IfSome d (FitsSigned w64)) (maybe i64) (λ a b. maybe_at i64_at)
    AreTimes (λ t. times_bytes t.0 t.1 t.2) (λ a b d. (a, b, d))
    timestamp_exact (λ a fit. timestamp_exact) (λ a b fit-a fit-b. maybe_i64_exact)
    (λ a b d fit-a fit-b fit-d. ((fit-a, fit-b, fit-d), refl))
    (λ t fit. (t.0, t.1, t.2, fit.0, fit.1, fit.2, refl))

abbrev IsRest : ℕ × ℕ → Type 0
IsRest r = IsBetween (2 ^ 8) 0 LAST_LEVEL r.0 × IsBetween (2 ^ 32) 1 PARTITION_LIMIT r.1

rest_exact : IsExact IsRest (λ r. rest_bytes r.0 r.1) rest_at
unfolding rest_at
rest_exact =
    exact_two (IsBetween (2 ^ 8) 0 LAST_LEVEL) u8 (checked (is_in_range 0 LAST_LEVEL) u8_at) (λ l k. IsBetween (2 ^ 32) 1 PARTITION_LIMIT k) u32
    (λ l. checked (is_in_range 1 PARTITION_LIMIT) u32_at) IsRest (λ r. rest_bytes r.0 r.1) (λ l k. (l, k))
    (exact_checked (λ n. n < 2 ^ 8) u8 u8_at (is_in_range 0 LAST_LEVEL) u8_field.exact)
    (λ l fit. exact_checked (λ n. n < 2 ^ 32) u32 u32_at (is_in_range 1 PARTITION_LIMIT) u32_field.exact)
    (λ l k fit-l fit-k. ((fit-l, fit-k), refl))
    (λ r fit. (r.0, r.1, fit.0, fit.1, refl))

info_made : (s : ℕ × ℕ) (r : List ℕ × List ℕ) (t : ℤ × ℤ × Option ℤ) (x : ℕ × ℕ) → AreSizes s → AreKeys r → AreTimes t → IsRest x → FitsInfo (made_info s r t x)
info_made s r t x fit-s fit-r fit-t fit-x = record {
  number = parts 1 FILE_NUMBER_LIMIT s.0 fit-s.0.1;
  bytes = (parts 0 FILE_LIMIT s.1 fit-s.1.1).1;
  first = fit-r.0;
  last = fit-r.1;
  least = fit-t.0;
  greatest = fit-t.1;
  dead = fit-t.2;
  level = (parts 0 LAST_LEVEL x.0 fit-x.0.1).1;
  keys = parts 1 PARTITION_LIMIT x.1 fit-x.1.1;
}

sizes_of : (number bytes : ℕ) → 1 ≤ number → number ≤ FILE_NUMBER_LIMIT → bytes ≤ FILE_LIMIT → AreSizes (number, bytes)
sizes_of number bytes low high most =
    ((omega arith, between 1 FILE_NUMBER_LIMIT number low high), (omega arith, between 0 FILE_LIMIT bytes (omega arith) most))

rest_of : (level keys : ℕ) → level ≤ LAST_LEVEL → 1 ≤ keys → keys ≤ PARTITION_LIMIT → IsRest (level, keys)
rest_of level keys most low high =
    ((omega arith, between 0 LAST_LEVEL level (omega arith) most), (omega arith, between 1 PARTITION_LIMIT keys low high))

pub info_exact : IsExact FitsInfo info_bytes info_at
unfolding info_at
info_exact =
    exact_four AreSizes (λ s. sizes_bytes s.0 s.1) sizes_at (λ s r. AreKeys r) (λ r. range_bytes r.0 r.1) (λ s. range_at)
    (λ s r t. AreTimes t) (λ t. times_bytes t.0 t.1 t.2) (λ s r. times_of_at) (λ s r t x. IsRest x) (λ x. rest_bytes x.0 x.1) (λ s r t. rest_at)
    FitsInfo info_bytes (λ s r t x. made_info s r t x)
    sizes_exact (λ s fit. range_exact) (λ s r fit-s fit-r. times_exact) (λ s r t fit-s fit-r fit-t. rest_exact)
    (λ s r t x fit-s fit-r fit-t fit-x. (info_made s r t x fit-s fit-r fit-t fit-x, refl))
    (λ i fit. (
      (i.number, i.bytes),
      (i.first, i.last),
      (i.least, i.greatest, i.dead),
      (i.level, i.keys),
      sizes_of i.number i.bytes fit.number.0 fit.number.1 fit.bytes,
      (fit.first, fit.last),
      (fit.least, fit.greatest, fit.dead),
      rest_of i.level i.keys fit.level fit.keys.0 fit.keys.1,
      refl,
    ))
