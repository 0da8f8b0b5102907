-- Which filters a table file holds.
-- Own format.
use Rattle.std.specs.Prelude.{ℕ, List, length, ◌*◌, ◌≤◌, ◌<◌, ◌^◌}
use Rattle.cas_filter.specs.declared.filter.TheConstants.{LEAST_BITS}

-- a filter has 64 bits or more, whose number has room in four bytes
pub record FitsFilter (filter : List ℕ) : Type 0 where
  pub some : LEAST_BITS ≤ 8 * length filter
  pub room : 8 * length filter < 2 ^ 32
