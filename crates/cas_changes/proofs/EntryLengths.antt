-- How long an entry may be.
use Rattle.std.proofs.Common.{◌≡◌, ℕ, ◌<◌, ◌≤◌, ◌+◌, ◌*◌, ◌-◌, ◌^◌, Bool, true, false, List, [], ◌∷◌, ◌++◌, length, Option, None, Some, refl, arith, length-append}
use Rattle.std.specs.List.{flat_map}
use Rattle.cas_types.specs.declared.limits.TheConstants.{KEY_LIMIT, COLUMN_LIMIT}
use Rattle.cas_types.specs.declared.tag.TypeTag.{TypeTag}
use Rattle.cas_types.specs.declared.schema.Column.{Column}
use Rattle.cas_types.specs.declared.schema.Options.{Options}
use Rattle.cas_types.specs.declared.schema.TableSchema.{TableSchema}
use Rattle.cas_atoms.specs.Fits.{FitsKey}
use Rattle.cas_codec.specs.Fields.{u8, u16, u32, u64, i64, bytes16, maybe}
use Rattle.cas_codec.proofs.FieldLengths.{u8_long, u16_long, u32_long, u64_long, i64_long, bytes16_long, maybe_long}
use Rattle.cas_info.specs.declared.info.TableInfo.{TableInfo}
use Rattle.cas_info.specs.Allowed.{FitsInfo}
use Rattle.cas_info.specs.Spelling.{sizes_bytes, range_bytes, times_bytes, rest_bytes, info_bytes}
use Rattle.cas_schemas.specs.Each.{EachFits}
use Rattle.cas_schemas.specs.Columns.{FitsColumn, FitColumns}
use Rattle.cas_schemas.specs.Allowed.{FitsTable}
use Rattle.cas_schemas.specs.Codes.{kind_code, shape_code, tag_code, strategy_code, unit_code}
use Rattle.cas_schemas.specs.Names.{is_name, is_new_column, is_new_table}
use Rattle.cas_schemas.specs.Spelling as schema
use Rattle.std.proofs.lemmas.Bool.{and_parts}
use Rattle.cas_schemas.proofs.CodeLaws.{ends}
use Rattle.cas_changes.specs.declared.said.TheConstants.{LISTED_LIMIT}
use Rattle.cas_changes.specs.declared.entry.Change.{Change}
use Rattle.cas_changes.specs.declared.entry.Entry.{Entry}
use Rattle.cas_changes.specs.declared.entry.Entry.TheVariants as entry
use Rattle.cas_changes.specs.Saying.{Saying, listed_after}
use Rattle.cas_changes.specs.Allowed.{may_come, FitsEntry, FitsNext, IsListable}
use Rattle.cas_changes.specs.Spelling.{where_bytes, marks_bytes, removed_bytes, added_bytes, change_bytes, entry_bytes}

-- ---- what is told of files

-- what is told of one file
pub info_long : (i : TableInfo) → FitsInfo i → length (info_bytes i) ≤ 131120
info_long i fit =
    let first : length i.first ≤ KEY_LIMIT = fit.first.1 in
    let last : length i.last ≤ KEY_LIMIT = fit.last.1 in
    let sizes = length-append (u64 i.number) (u64 i.bytes) in
    let range = length-append (bytes16 i.first) (bytes16 i.last) in
    let times = length-append (i64 i.least) (i64 i.greatest ++ maybe i64 i.dead) in
    let later = length-append (i64 i.greatest) (maybe i64 i.dead) in
    let rest = length-append (u8 i.level) (u32 i.keys) in
    let a = length-append (sizes_bytes i.number i.bytes) (range_bytes i.first i.last ++ (times_bytes i.least i.greatest i.dead ++ rest_bytes i.level i.keys)) in
    let b = length-append (range_bytes i.first i.last) (times_bytes i.least i.greatest i.dead ++ rest_bytes i.level i.keys) in
    let c = length-append (times_bytes i.least i.greatest i.dead) (rest_bytes i.level i.keys) in
    omega (
      arith,
      a,
      b,
      c,
      sizes,
      range,
      times,
      later,
      rest,
      u64_long i.number,
      u64_long i.bytes,
      bytes16_long i.first,
      bytes16_long i.last,
      i64_long i.least,
      i64_long i.greatest,
      maybe_long i.dead,
      u8_long i.level,
      u32_long i.keys,
      first,
      last,
    )

infos_long : (s : Saying) (before infos : List TableInfo) → EachFits (λ front i. FitsInfo i × (may_come s front i.number ≡ true)) before infos
    → length (flat_map info_bytes infos) ≤ 131120 * length infos
infos_long s before [] fit = omega arith
infos_long s before (i ∷ infos) fit =
    omega (arith, length-append (info_bytes i) (flat_map info_bytes infos), info_long i fit.0.0, infos_long s (before ++ i ∷ []) infos fit.1)

numbers_long : (numbers : List ℕ) → length (flat_map u64 numbers) ≡ 8 * length numbers
numbers_long [] = refl
numbers_long (n ∷ numbers) = omega (arith, length-append (u64 n) (flat_map u64 numbers), u64_long n, numbers_long numbers)

-- ---- definitions

column_name_long : (before : List Column) (n : List ℕ) → is_new_column before n ≡ true → length n ≤ 48
unfolding is_new_column is_name
column_name_long before n e = (ends 1 48 (length n) (and_parts _ _ (and_parts _ _ e).0).0).1

table_name_long : (tables : List TableSchema) (n : List ℕ) → is_new_table tables n ≡ true → length n ≤ 48
unfolding is_new_table is_name
table_name_long tables n e = (ends 1 48 (length n) (and_parts _ _ (and_parts _ _ e).0).0).1

ages_long : (o : Options) → length (schema.ages_bytes o) ≡ 9
ages_long o =
    omega (
      arith,
      length-append (u32 o.gc_grace_seconds) (u32 o.default_time_to_live ++ u8 (strategy_code o.strategy)),
      length-append (u32 o.default_time_to_live) (u8 (strategy_code o.strategy)),
      u32_long o.gc_grace_seconds,
      u32_long o.default_time_to_live,
      u8_long (strategy_code o.strategy),
    )

buckets_long : (o : Options) → length (schema.buckets_bytes o) ≡ 12
buckets_long o =
    omega (
      arith,
      length-append (u16 o.min_threshold) (u16 o.max_threshold ++ (u32 o.bucket_low ++ u32 o.bucket_high)),
      length-append (u16 o.max_threshold) (u32 o.bucket_low ++ u32 o.bucket_high),
      length-append (u32 o.bucket_low) (u32 o.bucket_high),
      u16_long o.min_threshold,
      u16_long o.max_threshold,
      u32_long o.bucket_low,
      u32_long o.bucket_high,
    )

sizes_long : (o : Options) → length (schema.sizes_bytes o) ≡ 12
sizes_long o =
    omega (
      arith,
      length-append (u64 o.min_sstable_size) (u16 o.sstable_size_in_mb ++ u16 o.fanout_size),
      length-append (u16 o.sstable_size_in_mb) (u16 o.fanout_size),
      u64_long o.min_sstable_size,
      u16_long o.sstable_size_in_mb,
      u16_long o.fanout_size,
    )

window_long : (o : Options) → length (schema.window_bytes o) ≡ 3
window_long o = omega (arith, length-append (u8 (unit_code o.unit)) (u16 o.window), u8_long (unit_code o.unit), u16_long o.window)

second_long : (o : Option TypeTag) → length (schema.second_bytes o) ≤ 1
second_long None = omega arith
second_long (Some t) = omega (arith, u8_long (tag_code t))

column_long : (new : Bool) (before : List Column) (c : Column) → FitsColumn new before c → length (schema.column_bytes c) ≤ 54
column_long new before c fit =
    let name : length c.name ≤ 48 = column_name_long before c.name fit.name in
    let a = length-append (bytes16 c.name) (u8 (kind_code c.kind) ++ schema.types_bytes c) in
    let b = length-append (u8 (kind_code c.kind)) (schema.types_bytes c) in
    let d = length-append (u8 (shape_code c.shape)) (u8 (tag_code c.tag) ++ schema.second_bytes c.second) in
    let e = length-append (u8 (tag_code c.tag)) (schema.second_bytes c.second) in
    omega (arith, a, b, d, e, name, bytes16_long c.name, u8_long (kind_code c.kind), u8_long (shape_code c.shape), u8_long (tag_code c.tag), second_long c.second)

each_long : (new : Bool) (before columns : List Column) → EachFits (FitsColumn new) before columns → length (flat_map schema.column_bytes columns) ≤ 54 * length columns
each_long new before [] fit = omega arith
each_long new before (c ∷ columns) fit =
    omega (arith, length-append (schema.column_bytes c) (flat_map schema.column_bytes columns), column_long new before c fit.0, each_long new (before ++ c ∷ []) columns fit.1)

columns_long : (limit : ℕ) (new : Bool) (before columns : List Column) → limit ≤ COLUMN_LIMIT → FitColumns limit new before columns → length (schema.columns_bytes columns) ≤ 13826
columns_long limit new before columns few fit =
    omega (arith, few, fit.1, length-append (u16 (length columns)) (flat_map schema.column_bytes columns), u16_long (length columns), each_long new before columns fit.2)

options_long : (o : Options) → length (schema.options_bytes o) ≡ 36
options_long o =
    let a = length-append (schema.ages_bytes o) (schema.buckets_bytes o ++ (schema.sizes_bytes o ++ schema.window_bytes o)) in
    let b = length-append (schema.buckets_bytes o) (schema.sizes_bytes o ++ schema.window_bytes o) in
    let c = length-append (schema.sizes_bytes o) (schema.window_bytes o) in
    omega (arith, a, b, c, ages_long o, buckets_long o, sizes_long o, window_long o)

schema_long : (tables : List TableSchema) (t : TableSchema) → FitsTable tables t → length (schema.schema_bytes t) ≤ 13914
schema_long tables t fit =
    let name : length t.name ≤ 48 = table_name_long tables t.name fit.name in
    let a = length-append (u16 t.number) (bytes16 t.name ++ (schema.columns_bytes t.columns ++ schema.options_bytes t.options)) in
    let b = length-append (bytes16 t.name) (schema.columns_bytes t.columns ++ schema.options_bytes t.options) in
    let c = length-append (schema.columns_bytes t.columns) (schema.options_bytes t.options) in
    omega (arith, a, b, c, name, u16_long t.number, bytes16_long t.name, columns_long COLUMN_LIMIT true [] t.columns (omega arith) fit.columns, options_long t.options)

-- ---- entries

change_long : (s : Saying) (c : Change) → FitsEntry s (entry.Change c) → length c.added ≤ LISTED_LIMIT → length (change_bytes c) ≤ 537591843
change_long s c fit few =
    let change = fit.1 in
    let a = length-append (where_bytes c.table c.shard) (marks_bytes c.moment c.frontier c.drawn ++ (removed_bytes c.removed ++ added_bytes c.added)) in
    let b = length-append (marks_bytes c.moment c.frontier c.drawn) (removed_bytes c.removed ++ added_bytes c.added) in
    let d = length-append (removed_bytes c.removed) (added_bytes c.added) in
    let e = length-append (u16 c.table) (u8 c.shard) in
    let f = length-append (i64 c.moment) (u64 c.frontier ++ i64 c.drawn) in
    let g = length-append (u64 c.frontier) (i64 c.drawn) in
    let h = length-append (u16 (length c.removed)) (flat_map u64 c.removed) in
    let i = length-append (u16 (length c.added)) (flat_map info_bytes c.added) in
    omega (
      arith,
      a,
      b,
      d,
      e,
      f,
      g,
      h,
      i,
      u16_long c.table,
      u8_long c.shard,
      i64_long c.moment,
      u64_long c.frontier,
      i64_long c.drawn,
      u16_long (length c.removed),
      u16_long (length c.added),
      numbers_long c.removed,
      infos_long s [] c.added change.added,
      change.few_removed,
      few,
    )

pub entry_short : (s : Saying) (e : Entry) → FitsNext s e → length (entry_bytes e) < 2 ^ 32
entry_short s (entry.Store shards) fit = omega (arith, length-append (u8 1) (u8 shards), u8_long 1, u8_long shards)
entry_short s (entry.Schema t) fit = omega (arith, length-append (u8 2) (schema.schema_bytes t), u8_long 2, schema_long s.tables t fit.0.1)
entry_short s (entry.NewSegment n) fit = omega (arith, length-append (u8 3) (u64 n), u8_long 3, u64_long n)
entry_short s (entry.DropSegment n) fit = omega (arith, length-append (u8 4) (u64 n), u8_long 4, u64_long n)
entry_short s (entry.Change c) fit =
    let few : s.listed - length c.removed + length c.added ≤ LISTED_LIMIT = fit.1 in
    omega (arith, length-append (u8 5) (change_bytes c), u8_long 5, change_long s c fit.0 (omega (arith, few)))
entry_short s (entry.AddColumns table columns) fit =
    let t : TableSchema = fit.0.1 in
    omega (
      arith,
      length-append (u8 6) (u16 table ++ schema.columns_bytes columns),
      length-append (u16 table) (schema.columns_bytes columns),
      u8_long 6,
      u16_long table,
      columns_long (COLUMN_LIMIT - length t.columns) false t.columns columns (omega arith) fit.0.3,
    )
