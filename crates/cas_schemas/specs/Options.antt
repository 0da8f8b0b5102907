-- Which options of a table there may be.
-- CQL documentation, "Data definition: table options, compaction options". The ranges are own, and that a suboption of another strategy stands at
-- its default.
use Rattle.std.specs.Prelude.{◌≡◌, ◌≤◌, ◌==◌, ℕ, nat_le, Bool, true, false, ◌&&◌, ◌||◌, not}
use Rattle.std.specs.Int.{is_in_range}
use Rattle.cas_types.specs.declared.limits.TheConstants.{TTL_LIMIT}
use Rattle.cas_types.specs.declared.schema.Options.{Options}
use Rattle.cas_types.specs.declared.schema.Strategy.{Strategy}
use Rattle.cas_types.specs.declared.schema.Strategy.TheVariants.{Leveled, TimeWindow}
use Rattle.cas_types.specs.declared.schema.Unit.{Unit}
use Rattle.cas_types.specs.declared.schema.Unit.TheVariants.{Days}
use Rattle.cas_schemas.specs.declared.ranges.Range.{Range}
use Rattle.cas_schemas.specs.declared.ranges.TheConstants.{GRACE_LIMIT, MIN_THRESHOLD, MAX_THRESHOLD, BUCKET_LOW, BUCKET_HIGH}
use Rattle.cas_schemas.specs.declared.ranges.TheConstants.{MIN_SSTABLE_SIZE, SSTABLE_SIZE_IN_MB, FANOUT_SIZE, WINDOW_SIZE}

-- a suboption that the strategy has lies in its range; one that it doesn't have stands at its default
abbrev pub allows : Bool → Range → ℕ → Bool
allows true range n = is_in_range range.least range.greatest n
allows false range n = n == range.default

-- the strategy is leveled
abbrev pub is_leveled : Strategy → Bool
is_leveled Leveled = true
is_leveled _ = false

-- the strategy has buckets, as size-tiered compaction does, and time-window compaction within a window
abbrev pub has_buckets : Strategy → Bool
has_buckets strategy = not (is_leveled strategy)

-- the strategy has windows
abbrev pub has_windows : Strategy → Bool
has_windows TimeWindow = true
has_windows _ = false

-- the unit that is the default
abbrev pub is_days : Unit → Bool
is_days Days = true
is_days _ = false

-- max_threshold lies in its range, and not below min_threshold
abbrev pub allows_most : Bool → ℕ → ℕ → Bool
allows_most has fewest n = allows has MAX_THRESHOLD n && nat_le fewest n

-- the unit of a strategy's windows
abbrev pub allows_unit : Bool → Unit → Bool
allows_unit has unit = has || is_days unit

-- options that a CREATE TABLE may give
pub record FitsOptions (o : Options) : Type 0 where
  pub grace : o.gc_grace_seconds ≤ GRACE_LIMIT
  pub ttl : o.default_time_to_live ≤ TTL_LIMIT
  pub fewest : allows (has_buckets o.strategy) MIN_THRESHOLD o.min_threshold ≡ true
  pub most : allows_most (has_buckets o.strategy) o.min_threshold o.max_threshold ≡ true
  pub low : allows (has_buckets o.strategy) BUCKET_LOW o.bucket_low ≡ true
  pub high : allows (has_buckets o.strategy) BUCKET_HIGH o.bucket_high ≡ true
  pub least_size : allows (has_buckets o.strategy) MIN_SSTABLE_SIZE o.min_sstable_size ≡ true
  pub table_size : allows (is_leveled o.strategy) SSTABLE_SIZE_IN_MB o.sstable_size_in_mb ≡ true
  pub fanout : allows (is_leveled o.strategy) FANOUT_SIZE o.fanout_size ≡ true
  pub unit : allows_unit (has_windows o.strategy) o.unit ≡ true
  pub window : allows (has_windows o.strategy) WINDOW_SIZE o.window ≡ true
