-- What a filter says of keys.
-- Cassandra documentation, "Operating: Bloom filters"; own.
use Rattle.std.specs.Prelude.{◌≡◌, ℕ, true, List, length, ◌*◌, ◌%◌, ◌<◌}
use Rattle.std.specs.List.{Contains, All}
use Rattle.cas_filter.specs.Filters.{is_set, may_hold, is_probed, filter_of}

-- a number of bits of a filter: one byte of them or more
abbrev pub IsWhole : ℕ → Type 0
IsWhole bits = (0 < bits) × (bits % 8 ≡ 0)

-- the bits of a filter that are set are those that one of its keys probes
abbrev pub SetsWhatIsProbed : Type 0
SetsWhatIsProbed = (bits : ℕ) (keys : List (List ℕ)) (p : ℕ) → bits % 8 ≡ 0 → p < bits → is_set (filter_of bits keys) p ≡ is_probed bits keys p

-- bytes in which just those bits are set are the filter of the keys
abbrev pub IsOnlyFilter : Type 0
IsOnlyFilter = (bits : ℕ) (keys : List (List ℕ)) (filter : List ℕ) → 8 * length filter ≡ bits → All (λ b. b < 256) filter
    → ((p : ℕ) → p < bits → is_set filter p ≡ is_probed bits keys p) → filter ≡ filter_of bits keys

-- a filter may hold each of its keys: where it says no, the key isn't there
abbrev pub HoldsItsKeys : Type 0
HoldsItsKeys = (bits : ℕ) (keys : List (List ℕ)) (key : List ℕ) → IsWhole bits → Contains keys key → may_hold (filter_of bits keys) key ≡ true

-- the same keys in another order, or one of them twice, have the same filter
abbrev pub HasNoOrder : Type 0
HasNoOrder = (bits : ℕ) (keys others : List (List ℕ)) → All (Contains others) keys → All (Contains keys) others
    → filter_of bits keys ≡ filter_of bits others
