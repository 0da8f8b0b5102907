-- What a DELETE leaves behind, which of two is the greater, and what it deletes.
-- Cassandra documentation, "Operating: Compaction, tombstones"; the order at equal timestamps is own. Timestamps are in microseconds.
use Rattle.std.specs.Prelude.{ℤ, Bool, int_le}
use Rattle.std.specs.declared.cmp.Ordering.{Ordering}
use Rattle.std.specs.Ordering.{int_cmp, on, then_cmp}
use Rattle.cas_cell.specs.declared.deletion.Deletion.{Deletion}

-- the later timestamp is the greater, and at one timestamp the later second at which it was made (own)
abbrev pub deletion_cmp : Deletion → Deletion → Ordering
deletion_cmp = then_cmp (on (λ d. d.at) int_cmp) (on (λ d. d.second) int_cmp)

-- in its scope a deletion deletes what was written at its timestamp or before it (at its very timestamp: own)
abbrev pub covered : Deletion → ℤ → Bool
covered d at = int_le at d.at
