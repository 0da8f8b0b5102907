-- The bytes of a partition key, and the shard that it belongs to.
-- CQL documentation, "Data definition: the partition key"; the spelling of a key of several columns is Cassandra's composite, the shard is own.
use Rattle.std.specs.Prelude.{ℕ, ◌==◌, ◌^◌, ◌-◌, ◌%◌, nat_lt, List, [], ◌∷◌, ◌++◌, length, min, Option, None, Some, if◌then◌else◌}
use Rattle.std.specs.List.{flat_map, sum}
use Rattle.std.specs.Int.{w16, to_be_bytes}
use Rattle.cas_types.specs.declared.limits.TheConstants.{KEY_LIMIT}
use Rattle.cas_types.specs.declared.key.KeyFault.{KeyFault}
use Rattle.cas_types.specs.declared.key.KeyFault.TheVariants.{Empty, TooLong}

-- the values of a key's columns so far, and how many columns there are
pub record KeyParts : Type 0 where
  pub parts : ℕ
  pub values : List (List ℕ)

-- one column of several: its length in two bytes, most significant first, the value, and a zero byte
abbrev pub component : List ℕ → List ℕ
component value = to_be_bytes w16 (length value) ++ (value ++ (0 ∷ []))

-- the components of all columns, one after another
abbrev pub composite_key : List (List ℕ) → List ℕ
composite_key values = flat_map component values

-- a key of one column is that column's value, one of several is composite: `PRIMARY KEY ((k, l))` with k = 1 and l = 'x' has the key 0x0004
-- 00000001 00 0001 78 00
abbrev pub key_of : List (List ℕ) → List ℕ
key_of (v ∷ []) = v
key_of values = composite_key values

-- why there is no such key: a key has from 1 to 65,535 bytes, and one that is too long is told with its length, which stands at 2^64-1 where it is greater
abbrev pub key_fault : List ℕ → Option KeyFault
key_fault key =
    if length key == 0 then Some Empty
    else if nat_lt KEY_LIMIT (length key) then Some (TooLong (min (length key) (2 ^ 64 - 1)))
    else None

-- the sum of a key's bytes, modulo the number of shards
abbrev pub shard_of : List ℕ → ℕ → ℕ
shard_of key shards = sum key % shards
