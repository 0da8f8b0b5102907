-- What an INSERT leaves of a row beside its columns, which of two is the greater, and how long the row lives by it.
-- CQL documentation, "Data manipulation: INSERT, USING TIMESTAMP, USING TTL"; the order at equal timestamps is own. Timestamps are in microseconds.
use Rattle.std.specs.Prelude.{ℕ, ℤ, pos, Bool, true, int_lt}
use Rattle.std.specs.declared.cmp.Ordering.{Ordering}
use Rattle.std.specs.Ordering.{nat_cmp, int_cmp, on, then_cmp}
use Rattle.cas_cell.specs.declared.liveness.Liveness.{Liveness}
use Rattle.cas_cell.specs.declared.liveness.Liveness.TheVariants.{Plain, Expiring}

-- the timestamp of the INSERT
abbrev pub live_at : Liveness → ℤ
live_at (Plain at) = at
live_at (Expiring at expiry ttl) = at

-- an INSERT with no TTL is below one with a TTL (own)
abbrev pub live_rank : Liveness → ℕ
live_rank (Plain at) = 0
live_rank (Expiring at expiry ttl) = 1

-- the second at which it expires, and 0 with no TTL (own)
abbrev pub live_second : Liveness → ℤ
live_second (Plain at) = pos 0
live_second (Expiring at expiry ttl) = expiry

-- the TTL, and 0 where there is none (own)
abbrev pub live_ttl : Liveness → ℕ
live_ttl (Plain at) = 0
live_ttl (Expiring at expiry ttl) = ttl

-- the later timestamp is the greater, and at one timestamp rank, expiry and TTL decide, one after the other (own)
abbrev pub live_cmp : Liveness → Liveness → Ordering
live_cmp = then_cmp (on live_at int_cmp) (then_cmp (on live_rank nat_cmp) (then_cmp (on live_second int_cmp) (on live_ttl nat_cmp)))

-- with no TTL the row lives on, and with one until just before it expires (CQL documentation, "Data manipulation: INSERT, USING TTL")
abbrev pub live_lives : ℤ → Liveness → Bool
live_lives now (Plain at) = true
live_lives now (Expiring at expiry ttl) = int_lt now expiry
