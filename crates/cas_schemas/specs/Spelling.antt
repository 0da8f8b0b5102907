-- How tables' columns, options and schemas are spelled as bytes: each has one spelling.
-- Own format.
use Rattle.std.specs.Prelude.{ℕ, List, [], ◌++◌, length, Option, None, Some}
use Rattle.std.specs.List.{flat_map}
use Rattle.cas_codec.specs.Fields.{u8, u16, u32, u64, bytes16}
use Rattle.cas_types.specs.declared.tag.TypeTag.{TypeTag}
use Rattle.cas_types.specs.declared.schema.Column.{Column}
use Rattle.cas_types.specs.declared.schema.Options.{Options}
use Rattle.cas_types.specs.declared.schema.TableSchema.{TableSchema}
use Rattle.cas_schemas.specs.Codes.{kind_code, shape_code, tag_code, strategy_code, unit_code}

-- the type of a map's values, which stands where the column is a map alone
abbrev pub second_bytes : Option TypeTag → List ℕ
second_bytes None = []
second_bytes (Some tag) = u8 (tag_code tag)

-- the shape and the types of a column, a byte each
abbrev pub types_bytes : Column → List ℕ
types_bytes c = u8 (shape_code c.shape) ++ (u8 (tag_code c.tag) ++ second_bytes c.second)

-- a column: its name, its kind in a byte, and its types; `v map<int, text>` is 00 01 76 03 03 05 07
abbrev pub column_bytes : Column → List ℕ
column_bytes c = bytes16 c.name ++ (u8 (kind_code c.kind) ++ types_bytes c)

-- columns: their number in two bytes, and each
abbrev pub columns_bytes : List Column → List ℕ
columns_bytes columns = u16 (length columns) ++ flat_map column_bytes columns

-- gc_grace_seconds and default_time_to_live in four bytes each, and the strategy in one
abbrev pub ages_bytes : Options → List ℕ
ages_bytes o = u32 o.gc_grace_seconds ++ (u32 o.default_time_to_live ++ u8 (strategy_code o.strategy))

-- min_threshold and max_threshold in two bytes each, bucket_low and bucket_high in four, in hundredths
abbrev pub buckets_bytes : Options → List ℕ
buckets_bytes o = u16 o.min_threshold ++ (u16 o.max_threshold ++ (u32 o.bucket_low ++ u32 o.bucket_high))

-- min_sstable_size in eight bytes, sstable_size_in_mb and fanout_size in two each
abbrev pub sizes_bytes : Options → List ℕ
sizes_bytes o = u64 o.min_sstable_size ++ (u16 o.sstable_size_in_mb ++ u16 o.fanout_size)

-- compaction_window_unit in a byte and compaction_window_size in two
abbrev pub window_bytes : Options → List ℕ
window_bytes o = u8 (unit_code o.unit) ++ u16 o.window

-- the options of a table, all of them, 36 bytes
abbrev pub options_bytes : Options → List ℕ
options_bytes o = ages_bytes o ++ (buckets_bytes o ++ (sizes_bytes o ++ window_bytes o))

-- a table: its number in two bytes, its name, its columns and its options
abbrev pub schema_bytes : TableSchema → List ℕ
schema_bytes t = u16 t.number ++ (bytes16 t.name ++ (columns_bytes t.columns ++ options_bytes t.options))
