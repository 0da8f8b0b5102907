-- The head of a table file is read exactly.
use Rattle.std.proofs.Common.{◌≡◌, ℕ, zero, suc, ◌<◌, ◌≤◌, ◌^◌, ◌++◌, leb, true, Ok, Err, refl, ap, arith}
use Rattle.std.specs.Int.{is_in_range}
use Rattle.std.proofs.lemmas.Bool.{leb-true, le-leb, and_parts, and_from}
use Rattle.cas_codec.specs.Reading.{Read, ◌>>=◌, checked, u8_at, u16_at, u64_at}
use Rattle.cas_codec.specs.Fields.{u8, u16, u64}
use Rattle.cas_codec.specs.Exact.{IsExact}
use Rattle.cas_codec.proofs.Exactness.{exact_checked, exact_map, exact_as}
use Rattle.cas_codec.proofs.FieldLaws.{u8_field, u16_field, u64_field}
use Rattle.cas_codec.proofs.Sequences.{exact_two, exact_four}
use Rattle.cas_info.specs.declared.info.TheConstants.{FILE_NUMBER_LIMIT}
use Rattle.cas_tables.specs.declared.header.TheConstants.{START_WORD, FIRST_VERSION, LAST_VERSION, LAST_SHARD}
use Rattle.cas_fragments.specs.declared.heads.Version.{Version}
use Rattle.cas_fragments.specs.declared.heads.Version.TheVariants.{First, Second}
use Rattle.cas_tables.specs.declared.header.Header.{Header}
use Rattle.cas_tables.specs.Versions.{version_number, version_of}
use Rattle.cas_tables.specs.Spelling.{start_bytes, header_bytes}
use Rattle.cas_tables.specs.Allowed.{FitsHeader}
use Rattle.cas_tables.specs.Reading.{version_at, start_at, header_at, header_of_at}

-- a number of that width, from least to greatest
abbrev IsBetween : ℕ → ℕ → ℕ → ℕ → Type 0
IsBetween limit least greatest n = (n < limit) × (is_in_range least greatest n ≡ true)

parts : (least greatest n : ℕ) → is_in_range least greatest n ≡ true → (least ≤ n) × (n ≤ greatest)
parts least greatest n e =
    let p = and_parts (leb least n) (leb n greatest) e in
    (leb-true least n p.0, leb-true n greatest p.1)

between : (least greatest n : ℕ) → least ≤ n → n ≤ greatest → is_in_range least greatest n ≡ true
between least greatest n low high = and_from (leb least n) (leb n greatest) (le-leb least n low) (le-leb n greatest high)

-- ---- versions

abbrev IsVersion : Version → Type 0
IsVersion v = Unit {0}

same_number : (n : ℕ) → FIRST_VERSION ≤ n → n ≤ LAST_VERSION → version_number (version_of n) ≡ n
same_number zero low high = absurd (omega arith)
same_number (suc zero) low high = refl
same_number (suc (suc zero)) low high = refl
same_number (suc (suc (suc n))) low high = absurd (omega arith)

of_number : (v : Version) → (n : ℕ) × IsBetween (2 ^ 16) FIRST_VERSION LAST_VERSION n × (version_of n ≡ v)
of_number First = (1, (omega arith, refl), refl)
of_number Second = (2, (omega arith, refl), refl)

version_exact : IsExact IsVersion (λ v. u16 (version_number v)) version_at
unfolding version_at
version_exact =
    exact_map (IsBetween (2 ^ 16) FIRST_VERSION LAST_VERSION) u16 (checked (is_in_range FIRST_VERSION LAST_VERSION) u16_at)
    IsVersion (λ v. u16 (version_number v)) version_of
    (exact_checked (λ n. n < 2 ^ 16) u16 u16_at (is_in_range FIRST_VERSION LAST_VERSION) u16_field.exact)
    (λ n fit. let p = parts FIRST_VERSION LAST_VERSION n fit.1 in (tt, ap u16 (same_number n p.0 p.1)))
    (λ v fit. of_number v)

-- ---- headers

same_word : (n : ℕ) → IsBetween (2 ^ 64) START_WORD START_WORD n → START_WORD ≡ n
same_word n fit = let p = parts START_WORD START_WORD n fit.1 in omega arith

the_word : IsBetween (2 ^ 64) START_WORD START_WORD START_WORD
the_word = (omega arith, between START_WORD START_WORD START_WORD (omega arith) (omega arith))

start_exact : IsExact IsVersion start_bytes start_at
unfolding start_at
start_exact =
    exact_as IsVersion IsVersion start_bytes start_bytes
    (λ left. checked (is_in_range START_WORD START_WORD) u64_at left >>= λ word. version_at word.1 >>= λ v. Ok (v.0, v.1)) start_at
    (exact_two (IsBetween (2 ^ 64) START_WORD START_WORD) u64 (checked (is_in_range START_WORD START_WORD) u64_at) (λ n v. IsVersion v) (λ v. u16 (version_number v))
    (λ n. version_at) IsVersion start_bytes (λ n v. v)
    (exact_checked (λ n. n < 2 ^ 64) u64 u64_at (is_in_range START_WORD START_WORD) u64_field.exact)
    (λ n fit. version_exact)
    (λ n v fit-n fit-v. (tt, ap (λ w. u64 w ++ u16 (version_number v)) (same_word n fit-n)))
    (λ v fit. (START_WORD, v, the_word, tt, refl)))
    (λ v fit. fit) (λ v fit. fit) (λ v. refl)
    (λ left. as_read (checked (is_in_range START_WORD START_WORD) u64_at left))
  where
    all_of : (r : Read Version) → r ≡ (r >>= λ v. Ok (v.0, v.1))
    all_of (Ok v) = refl
    all_of (Err e) = refl

    as_read : (r : Read ℕ) → (r >>= λ word. version_at word.1) ≡ (r >>= λ word. version_at word.1 >>= λ v. Ok (v.0, v.1))
    as_read (Ok word) = all_of (version_at word.1)
    as_read (Err e) = refl

pub header_exact : IsExact FitsHeader header_bytes header_at
unfolding header_at
header_exact =
    exact_four IsVersion start_bytes start_at (λ v t. t < 2 ^ 16) u16 (λ v. u16_at)
    (λ v t s. IsBetween (2 ^ 8) 0 LAST_SHARD s) u8 (λ v t. checked (is_in_range 0 LAST_SHARD) u8_at)
    (λ v t s n. IsBetween (2 ^ 64) 1 FILE_NUMBER_LIMIT n) u64 (λ v t s. checked (is_in_range 1 FILE_NUMBER_LIMIT) u64_at)
    FitsHeader header_bytes (λ v t s n. record { version = v; table = t; shard = s; number = n })
    start_exact (λ v fit. u16_field.exact)
    (λ v t fit-v fit-t. exact_checked (λ n. n < 2 ^ 8) u8 u8_at (is_in_range 0 LAST_SHARD) u8_field.exact)
    (λ v t s fit-v fit-t fit-s. exact_checked (λ n. n < 2 ^ 64) u64 u64_at (is_in_range 1 FILE_NUMBER_LIMIT) u64_field.exact)
    (λ v t s n fit-v fit-t fit-s fit-n. (
      record { table = fit-t; shard = (parts 0 LAST_SHARD s fit-s.1).1; number = parts 1 FILE_NUMBER_LIMIT n fit-n.1 },
      refl,
    ))
    (λ h fit. (
      h.version,
      h.table,
      h.shard,
      h.number,
      tt,
      fit.table,
      shard_of h.shard fit.shard,
      number_of h.number fit.number.0 fit.number.1,
      refl,
    ))
  where
    shard_of : (s : ℕ) → s ≤ LAST_SHARD → IsBetween (2 ^ 8) 0 LAST_SHARD s
    shard_of s most = (omega arith, between 0 LAST_SHARD s (omega arith) most)

    number_of : (n : ℕ) → 1 ≤ n → n ≤ FILE_NUMBER_LIMIT → IsBetween (2 ^ 64) 1 FILE_NUMBER_LIMIT n
    number_of n low high = (omega arith, between 1 FILE_NUMBER_LIMIT n low high)

-- ---- the header of one file

is_only : (limit m n : ℕ) → IsBetween limit m m n → m ≡ n
is_only limit m n fit = let p = parts m m n fit.1 in omega arith

only : (limit m : ℕ) → m < limit → IsBetween limit m m m
only limit m below = (below, between m m m (omega arith) (omega arith))

pub header_of_exact : (h : Header) → FitsHeader h → IsExact IsVersion (λ v. header_bytes (record h { version = v })) (header_of_at h.table h.shard h.number)
unfolding header_of_at
header_of_exact h fit =
    exact_four IsVersion start_bytes start_at (λ v t. IsBetween (2 ^ 16) h.table h.table t) u16 (λ v. checked (is_in_range h.table h.table) u16_at)
    (λ v t s. IsBetween (2 ^ 8) h.shard h.shard s) u8 (λ v t. checked (is_in_range h.shard h.shard) u8_at)
    (λ v t s n. IsBetween (2 ^ 64) h.number h.number n) u64 (λ v t s. checked (is_in_range h.number h.number) u64_at)
    IsVersion (λ v. header_bytes (record h { version = v })) (λ v t s n. v)
    start_exact (λ v fit-v. exact_checked (λ n. n < 2 ^ 16) u16 u16_at (is_in_range h.table h.table) u16_field.exact)
    (λ v t fit-v fit-t. exact_checked (λ n. n < 2 ^ 8) u8 u8_at (is_in_range h.shard h.shard) u8_field.exact)
    (λ v t s fit-v fit-t fit-s. exact_checked (λ n. n < 2 ^ 64) u64 u64_at (is_in_range h.number h.number) u64_field.exact)
    (λ v t s n fit-v fit-t fit-s fit-n. (
      tt,
      λ i. start_bytes v ++ (u16 (is_only (2 ^ 16) h.table t fit-t i) ++ (u8 (is_only (2 ^ 8) h.shard s fit-s i) ++ u64 (is_only (2 ^ 64) h.number n fit-n i))),
    ))
    (λ v fit-v. (
      v,
      h.table,
      h.shard,
      h.number,
      tt,
      only (2 ^ 16) h.table fit.table,
      only (2 ^ 8) h.shard (let most = fit.shard in omega arith),
      only (2 ^ 64) h.number (let most = fit.number.1 in omega arith),
      refl,
    ))
