-- The values of a partition key's columns, read from the key's bytes.
-- CQL documentation, "Data definition: the partition key"; the spelling is Cassandra's composite.
use Rattle.std.specs.Prelude.{ℕ, suc, zero, ◌+◌, List, [], ◌∷◌, take, drop}
use Rattle.std.specs.Int.{w16, from_be_bytes}

-- the values of a composite key of so many columns: for each column the length in two bytes, the value, and a byte between
abbrev pub components : ℕ → List ℕ → List (List ℕ)
components zero key = []
components (suc n) key =
    let size = from_be_bytes w16 (take 2 key) in
    take size (drop 2 key) ∷ components n (drop (size + 3) key)

-- a key of one column is that column's value
abbrev pub key_values : ℕ → List ℕ → List (List ℕ)
key_values zero key = []
key_values (suc zero) key = key ∷ []
key_values (suc (suc n)) key = components (suc (suc n)) key
