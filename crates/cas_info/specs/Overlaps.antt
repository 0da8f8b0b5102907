-- Which table files may hold the same partition.
-- Cassandra documentation, "Compaction: leveled compaction"; keys are ordered by their bytes (own).
use Rattle.std.specs.Prelude.{◌≡◌, ◌&&◌, not, Bool, true, ℕ, List}
use Rattle.std.specs.Ordering.{is_gt}
use Rattle.cas_types.specs.Values.{bytes_cmp}
use Rattle.cas_info.specs.declared.info.TableInfo.{TableInfo}

-- the first key isn't above the second
abbrev pub reaches : List ℕ → List ℕ → Bool
reaches low high = not (is_gt (bytes_cmp low high))

-- the key lies from the file's first key to its last
abbrev pub MayHold : TableInfo → List ℕ → Type 0
MayHold info key = (reaches info.first key ≡ true) × (reaches key info.last ≡ true)

-- neither file ends before the other begins
abbrev pub overlaps : TableInfo → TableInfo → Bool
overlaps a b = reaches a.first b.last && reaches b.first a.last
