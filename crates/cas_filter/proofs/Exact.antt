-- A filter is read exactly.
use Rattle.std.proofs.Common.{◌≡◌, ℕ, ◌*◌, ◌/◌, ◌%◌, ◌^◌, ◌<◌, ◌≤◌, leb, eqb, true, List, ◌++◌, length, refl, ap, arith}
use Rattle.std.proofs.lemmas.Bool.{leb-true, le-leb, eqb-true, eq-eqb, and_parts, and_from}
use Rattle.cas_codec.specs.Fields.{u32}
use Rattle.cas_codec.specs.Reading.{checked, u32_at, bytes_at}
use Rattle.cas_codec.specs.Exact.{IsExact}
use Rattle.cas_codec.proofs.Exactness.{exact_then, exact_checked, exact_as}
use Rattle.cas_codec.proofs.FieldLaws.{u32_field, exact_bytes}
use Rattle.cas_filter.specs.declared.filter.TheConstants.{LEAST_BITS}
use Rattle.cas_filter.specs.Spelling.{filter_bytes}
use Rattle.cas_filter.specs.Allowed.{FitsFilter}
use Rattle.cas_filter.specs.Reading.{is_bit_count, filter_at}

abbrev IsCount : ℕ → Type 0
IsCount bits = (bits < 2 ^ 32) × (is_bit_count bits ≡ true)

count_parts : (bits : ℕ) → is_bit_count bits ≡ true → (LEAST_BITS ≤ bits) × (bits % 8 ≡ 0)
unfolding is_bit_count
count_parts bits e =
    let p = and_parts (leb LEAST_BITS bits) (eqb (bits % 8) 0) e in
    (leb-true LEAST_BITS bits p.0, eqb-true (bits % 8) 0 p.1)

is_count : (bits : ℕ) → LEAST_BITS ≤ bits → bits % 8 ≡ 0 → is_bit_count bits ≡ true
unfolding is_bit_count
is_count bits some whole = and_from (leb LEAST_BITS bits) (eqb (bits % 8) 0) (le-leb LEAST_BITS bits some) (eq-eqb (bits % 8) 0 whole)

made : (bits : ℕ) (filter : List ℕ) → IsCount bits → length filter ≡ bits / 8 → FitsFilter filter × (8 * length filter ≡ bits)
made bits filter fit long =
    let p = count_parts bits fit.1 in
    let whole : 8 * length filter ≡ bits = omega arith in
    (record { some = omega arith; room = omega arith }, whole)

back : (bits : ℕ) (filter : List ℕ) → 8 * length filter ≡ bits → length filter ≡ bits / 8
back bits filter is = omega arith

count_of : (filter : List ℕ) → FitsFilter filter → IsCount (8 * length filter)
count_of filter fit = (fit.room, is_count (8 * length filter) fit.some (omega arith))

pub read_fits : (bits : ℕ) (filter : List ℕ) → IsCount bits → length filter ≡ bits / 8 → FitsFilter filter
read_fits bits filter fit long = (made bits filter fit long).0

pub filter_exact : IsExact FitsFilter filter_bytes filter_at
unfolding filter_at
filter_exact =
    exact_then IsCount u32 (checked is_bit_count u32_at) FitsFilter filter_bytes (λ bits filter. 8 * length filter ≡ bits) (λ bits filter. filter)
    (λ before bits left. bytes_at left.at (bits / 8) left)
    (exact_checked (λ n. n < 2 ^ 32) u32 u32_at is_bit_count u32_field.exact)
    (λ before bits fit. exact_as (λ filter. length filter ≡ bits / 8) (λ filter. FitsFilter filter × (8 * length filter ≡ bits)) (λ filter. filter) (λ filter. filter)
    (λ left. bytes_at left.at (bits / 8) left) (λ left. bytes_at left.at (bits / 8) left)
    (exact_bytes (λ left. left.at) (bits / 8))
    (λ filter long. made bits filter fit long) (λ filter fit. back bits filter fit.1) (λ filter. refl) (λ left. refl))
    (λ filter fit. (8 * length filter, count_of filter fit, refl))
    (λ bits filter fit is. ap (λ (n : ℕ). u32 n ++ filter) is)
