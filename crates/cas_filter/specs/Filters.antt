-- The filter of a table file's keys, as Cassandra has one for each SSTable: it says surely no, or perhaps.
-- Cassandra documentation, "Operating: Bloom filters"; the bits are own.
use Rattle.std.specs.Prelude.{ℕ, Bool, List, map, length, slice_index, max, if◌then◌else◌, ◌==◌, ◌+◌, ◌*◌, ◌/◌, ◌%◌}
use Rattle.std.specs.Int.{bit_at}
use Rattle.std.specs.List.{list_any, list_all, range_with_len}
use Rattle.cas_filter.specs.Hashing.{probes}
use Rattle.cas_filter.specs.declared.filter.TheConstants.{KEY_BITS, LEAST_BITS}

-- the bits of a filter for so many keys: ten for each, in whole bytes, and at least 64
abbrev pub bits_for : ℕ → ℕ
bits_for keys = max LEAST_BITS ((KEY_BITS * keys + 7) / 8 * 8)

-- the bit p of a filter is set; those of a byte count from its lowest
unfoldable pub is_set : List ℕ → ℕ → Bool
is_set filter p = bit_at (slice_index filter (p / 8)) (p % 8) == 1

-- the filter doesn't say no: each bit is set that the key probes
unfoldable pub may_hold : List ℕ → List ℕ → Bool
may_hold filter key = list_all (is_set filter) (probes (8 * length filter) key)

-- of so many bits the key probes the bit p
unfoldable pub is_probe : ℕ → List ℕ → ℕ → Bool
is_probe bits key p = list_any (λ q. q == p) (probes bits key)

-- one of the keys probes it
unfoldable pub is_probed : ℕ → List (List ℕ) → ℕ → Bool
is_probed bits keys p = list_any (λ key. is_probe bits key p) keys

-- the byte whose bits, counted from the lowest, are as the test says
unfoldable pub byte_of : (ℕ → Bool) → ℕ
byte_of test =
    (if test 0 then 1 else 0) + (if test 1 then 2 else 0) + (if test 2 then 4 else 0) + (if test 3 then 8 else 0)
    + (if test 4 then 16 else 0) + (if test 5 then 32 else 0) + (if test 6 then 64 else 0) + (if test 7 then 128 else 0)

-- the filter of the keys, of so many bits: those are set that one of the keys probes
unfoldable pub filter_of : ℕ → List (List ℕ) → List ℕ
filter_of bits keys = map (λ i. byte_of (λ j. is_probed bits keys (8 * i + j))) (range_with_len 0 (bits / 8))
