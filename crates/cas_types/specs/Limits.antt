-- How much there may be of what the whole store counts (own); each number stands once, as a constant of the code.
use Rattle.std.specs.Prelude.{ℕ, ℤ, pos, ◌≤◌, ◌≤ℤ◌, List, length}
use Rattle.cas_types.specs.declared.schema.Column.{Column}
use Rattle.cas_types.specs.declared.limits.TheConstants.{COLUMN_LIMIT, SHARD_LIMIT, LAST_SECOND}

-- the columns of a table are at most 256
abbrev pub IsNarrow : List Column → Type 0
IsNarrow columns = length columns ≤ COLUMN_LIMIT

-- a store has from 1 to 16 shards
abbrev pub IsShardCount : ℕ → Type 0
IsShardCount shards = (1 ≤ shards) × (shards ≤ SHARD_LIMIT)

-- a moment is a second between the start of 1970 and the end of the year 9999
abbrev pub IsMoment : ℤ → Type 0
IsMoment second = (pos 0 ≤ℤ second) × (second ≤ℤ LAST_SECOND)
