-- Reading tables' columns, options and schemas. That these readings take the spellings and nothing else is a law.
-- Own. The place of a refusal is that of the refused field's first byte.
use Rattle.std.specs.Prelude.{ℕ, ◌==◌, nat_lt, Bool, true, ◌&&◌, List, [], length, Option, Ok}
use Rattle.std.specs.Int.{is_in_range}
use Rattle.cas_codec.specs.Reading.{Left, Read, ◌>>=◌, checked, u16_at, u32_at, u64_at, bytes16_at, there_at}
use Rattle.cas_types.specs.Schemas.{is_map}
use Rattle.cas_types.specs.declared.limits.TheConstants.{TTL_LIMIT, COLUMN_LIMIT}
use Rattle.cas_types.specs.declared.tag.TypeTag.{TypeTag}
use Rattle.cas_types.specs.declared.schema.Kind.{Kind}
use Rattle.cas_types.specs.declared.schema.Shape.{Shape}
use Rattle.cas_types.specs.declared.schema.Strategy.{Strategy}
use Rattle.cas_types.specs.declared.schema.Unit.{Unit}
use Rattle.cas_types.specs.declared.schema.Column.{Column}
use Rattle.cas_types.specs.declared.schema.Options.{Options}
use Rattle.cas_types.specs.declared.schema.TableSchema.{TableSchema}
use Rattle.cas_schemas.specs.declared.ranges.TheConstants.{GRACE_LIMIT, MIN_THRESHOLD, BUCKET_LOW, BUCKET_HIGH}
use Rattle.cas_schemas.specs.declared.ranges.TheConstants.{MIN_SSTABLE_SIZE, SSTABLE_SIZE_IN_MB, FANOUT_SIZE, WINDOW_SIZE}
use Rattle.cas_schemas.specs.declared.schemas.TheConstants.{TABLE_LIMIT}
use Rattle.cas_schemas.specs.Codes.{coded_at, kind_of, shape_of, tag_of, strategy_of, unit_of}
use Rattle.cas_schemas.specs.Each.{each_at}
use Rattle.cas_schemas.specs.Names.{is_new_column, is_new_table}
use Rattle.cas_schemas.specs.Options.{allows, is_leveled, has_buckets, has_windows, allows_most, allows_unit}
use Rattle.cas_schemas.specs.Columns.{may_stand, may_have}

-- ---- columns

-- the type of a map's values
abbrev pub second_at : Bool → Left → Read (Option TypeTag)
second_at there left = there_at (coded_at 12 tag_of) there left

-- the shape and the types of a column of this kind
unfoldable pub types_at : Kind → Left → Read (Shape × TypeTag × Option TypeTag)
types_at kind left = do
  shape ← checked (may_have kind) (coded_at 3 shape_of) left
  tag ← coded_at 12 tag_of shape.1
  second ← second_at (is_map shape.0) tag.1
  Ok ((shape.0, tag.0, second.0), second.1)

-- the column of these parts
abbrev pub made_column : List ℕ → Kind → Shape × TypeTag × Option TypeTag → Column
made_column name kind types = record { name = name; kind = kind; shape = types.0; tag = types.1; second = types.2 }

-- a column that stands behind these, in a table that is new or not
unfoldable pub column_at : Bool → List Column → Left → Read Column
column_at new before left = do
  name ← checked (is_new_column before) bytes16_at left
  kind ← checked (may_stand new before) (coded_at 4 kind_of) name.1
  types ← types_at kind.0 kind.1
  Ok (made_column name.0 kind.0 types.0, types.1)

-- columns that stand behind these, from 1 up to so many
unfoldable pub columns_at : ℕ → Bool → List Column → Left → Read (List Column)
columns_at limit new before left = do
  count ← checked (is_in_range 1 limit) u16_at left
  each_at (column_at new) count.0 before count.1

-- ---- options

-- gc_grace_seconds, default_time_to_live and the strategy
unfoldable pub ages_at : Left → Read (ℕ × ℕ × Strategy)
ages_at left = do
  grace ← checked (is_in_range 0 GRACE_LIMIT) u32_at left
  ttl ← checked (is_in_range 0 TTL_LIMIT) u32_at grace.1
  strategy ← coded_at 2 strategy_of ttl.1
  Ok ((grace.0, ttl.0, strategy.0), strategy.1)

-- max_threshold; one below min_threshold isn't allowed there
unfoldable pub most_at : Bool → ℕ → Left → Read ℕ
most_at has fewest left = checked (allows_most has fewest) u16_at left

-- the thresholds, and the bounds of buckets
unfoldable pub buckets_at : Bool → Left → Read (ℕ × ℕ × ℕ × ℕ)
buckets_at has left = do
  fewest ← checked (allows has MIN_THRESHOLD) u16_at left
  most ← most_at has fewest.0 fewest.1
  low ← checked (allows has BUCKET_LOW) u32_at most.1
  high ← checked (allows has BUCKET_HIGH) u32_at low.1
  Ok ((fewest.0, most.0, low.0, high.0), high.1)

-- min_sstable_size, sstable_size_in_mb and fanout_size
unfoldable pub sizes_at : Bool → Bool → Left → Read (ℕ × ℕ × ℕ)
sizes_at has_buckets has_levels left = do
  least ← checked (allows has_buckets MIN_SSTABLE_SIZE) u64_at left
  table ← checked (allows has_levels SSTABLE_SIZE_IN_MB) u16_at least.1
  fanout ← checked (allows has_levels FANOUT_SIZE) u16_at table.1
  Ok ((least.0, table.0, fanout.0), fanout.1)

-- compaction_window_unit
unfoldable pub unit_at : Bool → Left → Read Unit
unit_at has left = checked (allows_unit has) (coded_at 2 unit_of) left

-- compaction_window_unit and compaction_window_size
unfoldable pub window_at : Bool → Left → Read (Unit × ℕ)
window_at has left = do
  unit ← unit_at has left
  size ← checked (allows has WINDOW_SIZE) u16_at unit.1
  Ok ((unit.0, size.0), size.1)

-- the options of these parts
abbrev pub made_options : ℕ × ℕ × Strategy → ℕ × ℕ × ℕ × ℕ → ℕ × ℕ × ℕ → Unit × ℕ → Options
made_options ages buckets sizes window = record {
  gc_grace_seconds = ages.0;
  default_time_to_live = ages.1;
  strategy = ages.2;
  min_threshold = buckets.0;
  max_threshold = buckets.1;
  bucket_low = buckets.2;
  bucket_high = buckets.3;
  min_sstable_size = sizes.0;
  sstable_size_in_mb = sizes.1;
  fanout_size = sizes.2;
  unit = window.0;
  window = window.1;
}

-- the options of a table
unfoldable pub options_at : Left → Read Options
options_at left = do
  ages ← ages_at left
  buckets ← buckets_at (has_buckets ages.0.2) ages.1
  sizes ← sizes_at (has_buckets ages.0.2) (is_leveled ages.0.2) buckets.1
  window ← window_at (has_windows ages.0.2) sizes.1
  Ok (made_options ages.0 buckets.0 sizes.0 window.0, window.1)

-- ---- schemas

-- the number of the next table after so many
abbrev pub is_next_table : ℕ → ℕ → Bool
is_next_table count n = (n == count) && nat_lt n TABLE_LIMIT

-- the table that comes after these
unfoldable pub schema_at : List TableSchema → Left → Read TableSchema
schema_at tables left = do
  number ← checked (is_next_table (length tables)) u16_at left
  name ← checked (is_new_table tables) bytes16_at number.1
  columns ← columns_at COLUMN_LIMIT true [] name.1
  options ← options_at columns.1
  Ok (record { number = number.0; name = name.0; columns = columns.0; options = options.0 }, options.1)
