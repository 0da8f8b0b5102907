-- What a write or a DELETE of one column leaves behind, which of two is the greater, and whether it shows a value.
-- CQL documentation, "Data manipulation: INSERT / UPDATE, USING TIMESTAMP"; the order at equal timestamps is own. Timestamps are in microseconds.
use Rattle.std.specs.Prelude.{ℕ, ℤ, pos, Bool, true, false, int_lt, List, []}
use Rattle.std.specs.declared.cmp.Ordering.{Ordering}
use Rattle.std.specs.Ordering.{nat_cmp, int_cmp, on, then_cmp}
use Rattle.cas_types.specs.Values.{bytes_cmp}
use Rattle.cas_cell.specs.declared.cell.Cell.{Cell}
use Rattle.cas_cell.specs.declared.cell.Cell.TheVariants.{Plain, Expiring, Tombstone}

-- the timestamp of the write or the DELETE
abbrev pub cell_at : Cell → ℤ
cell_at (Plain at value) = at
cell_at (Expiring at expiry ttl value) = at
cell_at (Tombstone at second) = at

-- a value with no TTL is below one with a TTL, and that is below a DELETE (own)
abbrev pub cell_rank : Cell → ℕ
cell_rank (Plain at value) = 0
cell_rank (Expiring at expiry ttl value) = 1
cell_rank (Tombstone at second) = 2

-- the second at which the value expires or the DELETE was made, and 0 for a value with no TTL (own)
abbrev pub cell_second : Cell → ℤ
cell_second (Plain at value) = pos 0
cell_second (Expiring at expiry ttl value) = expiry
cell_second (Tombstone at second) = second

-- the bytes that were written, of which a DELETE has none (own)
abbrev pub cell_value : Cell → List ℕ
cell_value (Plain at value) = value
cell_value (Expiring at expiry ttl value) = value
cell_value (Tombstone at second) = []

-- the TTL, and 0 where there is none (own)
abbrev pub cell_ttl : Cell → ℕ
cell_ttl (Plain at value) = 0
cell_ttl (Expiring at expiry ttl value) = ttl
cell_ttl (Tombstone at second) = 0

-- the later timestamp is the greater, and at one timestamp rank, second, unsigned bytes and TTL decide, one after the other (own)
abbrev pub cell_cmp : Cell → Cell → Ordering
cell_cmp =
    then_cmp (on cell_at int_cmp) (then_cmp (on cell_rank nat_cmp)
    (then_cmp (on cell_second int_cmp) (then_cmp (on cell_value bytes_cmp) (on cell_ttl nat_cmp))))

-- a value with no TTL is shown for ever, one with a TTL until just before it expires, and a DELETE shows none (CQL documentation, "Data
-- manipulation: INSERT, USING TTL" and "DELETE")
abbrev pub cell_lives : ℤ → Cell → Bool
cell_lives now (Plain at value) = true
cell_lives now (Expiring at expiry ttl value) = int_lt now expiry
cell_lives now (Tombstone at second) = false
