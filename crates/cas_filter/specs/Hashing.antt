-- The hash of a partition key, and the bits of a filter that it probes.
-- FNV-1a of 64 bits (Fowler, Noll and Vo); the probes are own.
use Rattle.std.specs.Prelude.{ℕ, List, map, bit_or, bit_xor, ◌+◌, ◌*◌, ◌/◌, ◌%◌, ◌^◌}
use Rattle.std.specs.List.{fold, range_with_len}
use Rattle.cas_filter.specs.declared.hashing.TheConstants.{FNV_START, FNV_PRIME, PROBES}

-- a byte of the key comes into the hash by xor, and the hash is then multiplied, modulo 2^64
unfoldable pub hash_step : ℕ → ℕ → ℕ
hash_step h byte = bit_xor h byte * FNV_PRIME % 2 ^ 64

-- the hash of a key, byte after byte: that of the byte 61 is af63dc4c8601ec8c
unfoldable pub hash : List ℕ → ℕ
hash key = fold hash_step FNV_START key

-- of so many bits, the one that a hash probes: from the hash's upper half on, in steps of its lower half, made odd
unfoldable pub probe : ℕ → ℕ → ℕ → ℕ
probe bits h i = (h / 2 ^ 32 + i * bit_or (h % 2 ^ 32) 1) % bits

-- the bits that a key probes: seven, of which some may be one
unfoldable pub probes : ℕ → List ℕ → List ℕ
probes bits key = map (probe bits (hash key)) (range_with_len 0 PROBES)
