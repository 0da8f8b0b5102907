-- What is found in a table file that is loaded.
-- Cassandra documentation, "Operating: Bloom filters"; own.
use Rattle.std.specs.Prelude.{◌≡◌, ◌<◌, ℕ, true, false, map, List, length, slice_get, Option, None, Some}
use Rattle.cas_filter.specs.Filters.{bits_for, may_hold, filter_of}
use Rattle.cas_index.specs.Searches.{HasKey, IsNextAfter}
use Rattle.cas_index.specs.declared.entries.PartitionEntry.{PartitionEntry}
use Rattle.cas_sstread.specs.Reading.{Loaded}

-- the filter is that of the keys in the index, as it is in a file that was written as a table file must be
abbrev pub HasOwnFilter : Loaded → Type 0
HasOwnFilter k = k.filter ≡ filter_of (bits_for (length k.partitions)) (map (λ p. p.key) k.partitions)

-- the number of the partition that has the key: none where the filter says no; where it doesn't, the index is asked
pub record IsFound (k : Loaded) (key : List ℕ) (answer : Option ℕ) : Type 0 where
  pub denied : may_hold k.filter key ≡ false → answer ≡ None
  pub asked : may_hold k.filter key ≡ true → HasKey k.partitions key answer

-- the first key above the one that is given, or the first of all; none where none is above
abbrev pub IsNextKey : List PartitionEntry → Option (List ℕ) → Option (List ℕ) → Type 0
IsNextKey partitions after None = IsNextAfter partitions after None
IsNextKey partitions after (Some key) =
    (n : ℕ) × IsNextAfter partitions after (Some n) × (p : PartitionEntry) × (slice_get partitions n ≡ Some p) × (p.key ≡ key)

-- the place of the partition, or where all of them end
abbrev pub place_or : ℕ → Option PartitionEntry → ℕ
place_or end None = end
place_or end (Some p) = p.place

-- a place in front of that of the end of the partitions
abbrev pub IsWithin : Loaded → ℕ → Type 0
IsWithin k place = place < k.end
