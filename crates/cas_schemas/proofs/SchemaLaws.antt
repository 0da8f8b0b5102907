-- Columns and the definitions of tables are read exactly.
use Rattle.std.proofs.Common.{◌≡◌, ℕ, ◌<◌, ◌≤◌, ◌^◌, Bool, true, false, not, is_some, nat_lt, List, [], ◌∷◌, ◌++◌, length, Option, None, Some, refl, ap, arith}
use Rattle.std.specs.Int.{is_in_range}
use Rattle.std.specs.List.{flat_map, list_any, AllByRecursion}
use Rattle.std.specs.Str.{is_utf8, bytes_eq}
use Rattle.std.proofs.lemmas.Bool.{eqb-true, eq-eqb, ltb-true, lt-ltb, and_parts, and_from}
use Rattle.cas_types.specs.Schemas.{is_map}
use Rattle.cas_types.specs.declared.tag.TypeTag.{TypeTag}
use Rattle.cas_types.specs.declared.schema.Kind.{Kind}
use Rattle.cas_types.specs.declared.schema.Shape.{Shape}
use Rattle.cas_types.specs.declared.schema.Column.{Column}
use Rattle.cas_types.specs.declared.schema.Options.{Options}
use Rattle.cas_types.specs.declared.schema.TableSchema.{TableSchema}
use Rattle.cas_codec.specs.Reading.{checked, u16_at, bytes16_at}
use Rattle.cas_codec.specs.Fields.{u8, u16, bytes16}
use Rattle.cas_codec.specs.Exact.{IsExact}
use Rattle.cas_codec.proofs.Exactness.{exact_checked, exact_done, exact_map, exact_as, exact_then}
use Rattle.cas_codec.proofs.FieldLaws.{u16_field, bytes16_field}
use Rattle.cas_codec.proofs.Sequences.{exact_three, exact_four}
use Rattle.cas_schemas.specs.declared.names.TheConstants.{NAME_LIMIT}
use Rattle.cas_schemas.specs.declared.schemas.TheConstants.{TABLE_LIMIT}
use Rattle.cas_schemas.specs.Codes.{kind_code, shape_code, tag_code, kind_of, shape_of, tag_of, coded_at}
use Rattle.cas_schemas.specs.Names.{is_name, is_new_column, is_new_table}
use Rattle.cas_schemas.specs.Columns.{may_stand, may_have, FitsColumn, FitColumns, HaveRoom}
use Rattle.cas_schemas.specs.Each.{each_at, EachFits}
use Rattle.cas_schemas.specs.Options.{FitsOptions}
use Rattle.cas_schemas.specs.Allowed.{FitsTable, HasSpelling}
use Rattle.cas_schemas.specs.Spelling.{second_bytes, column_bytes, columns_bytes, options_bytes, schema_bytes}
use Rattle.cas_schemas.specs.Reading.{second_at, types_at, made_column, column_at, columns_at, options_at, is_next_table, schema_at}
use Rattle.cas_schemas.proofs.CodeLaws.{ends, within, kind_exact, shape_exact, tag_exact}
use Rattle.cas_schemas.proofs.EachLaws.{AreEach, exact_each}
use Rattle.cas_schemas.proofs.OptionLaws.{options_exact}
use Rattle.cas_types.specs.declared.limits.TheConstants.{COLUMN_LIMIT}

-- ---- types

no_second : (o : Option TypeTag) → is_some o ≡ false → (o ≡ None) × (second_bytes o ≡ [])
no_second None e = (refl, refl)
no_second (Some t) e = absurd cc

a_second : (o : Option TypeTag) → is_some o ≡ true → (t : TypeTag) × Unit {0} × (Some t ≡ o)
a_second None e = absurd cc
a_second (Some t) e = (t, tt, refl)

second_exact : (there : Bool) → IsExact (λ o. is_some o ≡ there) second_bytes (second_at there)
second_exact false = exact_done (λ o. is_some o ≡ false) second_bytes None refl no_second
second_exact true =
    exact_map (λ t. Unit {0}) (λ t. u8 (tag_code t)) (coded_at 12 tag_of) (λ o. is_some o ≡ true) second_bytes (λ t. Some t) tag_exact
    (λ t fit. (refl, refl)) a_second

abbrev AreTypes : Kind → Shape × TypeTag × Option TypeTag → Type 0
AreTypes kind t = (may_have kind t.0 ≡ true) × (is_some t.2 ≡ is_map t.0)

abbrev types_text : Shape × TypeTag × Option TypeTag → List ℕ
types_text t = u8 (shape_code t.0) ++ (u8 (tag_code t.1) ++ second_bytes t.2)

types_exact : (kind : Kind) → IsExact (AreTypes kind) types_text (types_at kind)
unfolding types_at
types_exact kind =
    exact_three (λ s. Unit {0} × (may_have kind s ≡ true)) (λ s. u8 (shape_code s)) (checked (may_have kind) (coded_at 3 shape_of))
    (λ s t. Unit {0}) (λ t. u8 (tag_code t)) (λ s. coded_at 12 tag_of) (λ s t o. is_some o ≡ is_map s) second_bytes (λ s t. second_at (is_map s))
    (AreTypes kind) types_text (λ s t o. (s, t, o))
    (exact_checked (λ s. Unit {0}) (λ s. u8 (shape_code s)) (coded_at 3 shape_of) (may_have kind) shape_exact)
    (λ s fit. tag_exact) (λ s t fit-s fit-t. second_exact (is_map s))
    (λ s t o fit-s fit-t fit-o. ((fit-s.1, fit-o), refl))
    (λ t fit. (t.0, t.1, t.2, (tt, fit.0), tt, fit.1, refl))

-- ---- columns

name_short : (n : List ℕ) → is_name n ≡ true → length n < 2 ^ 16
unfolding is_name
name_short n e =
    let long : length n ≤ NAME_LIMIT = (ends 1 NAME_LIMIT (length n) (and_parts (is_in_range 1 NAME_LIMIT (length n)) (is_utf8 n) e).0).1 in
    omega arith

column_short : (before : List Column) (n : List ℕ) → is_new_column before n ≡ true → length n < 2 ^ 16
unfolding is_new_column
column_short before n e = name_short n (and_parts (is_name n) (not (list_any (λ c. bytes_eq c.name n) before)) e).0

table_short : (tables : List TableSchema) (n : List ℕ) → is_new_table tables n ≡ true → length n < 2 ^ 16
unfolding is_new_table
table_short tables n e = name_short n (and_parts (is_name n) _ e).0

column_exact : (new : Bool) (before : List Column) → IsExact (FitsColumn new before) column_bytes (column_at new before)
unfolding column_at
column_exact new before =
    exact_three (λ n. (length n < 2 ^ 16) × (is_new_column before n ≡ true)) bytes16 (checked (is_new_column before) bytes16_at)
    (λ n k. Unit {0} × (may_stand new before k ≡ true)) (λ k. u8 (kind_code k)) (λ n. checked (may_stand new before) (coded_at 4 kind_of))
    (λ n k t. AreTypes k t) types_text (λ n k. types_at k)
    (FitsColumn new before) column_bytes (λ n k t. made_column n k t)
    (exact_checked (λ n. length n < 2 ^ 16) bytes16 bytes16_at (is_new_column before) bytes16_field.exact)
    (λ n fit. exact_checked (λ k. Unit {0}) (λ k. u8 (kind_code k)) (coded_at 4 kind_of) (may_stand new before) kind_exact)
    (λ n k fit-n fit-k. types_exact k)
    (λ n k t fit-n fit-k fit-t. (record { name = fit-n.1; kind = fit-k.1; shape = fit-t.0; second = fit-t.1 }, refl))
    (λ c fit. (c.name, c.kind, (c.shape, c.tag, c.second), (column_short before c.name fit.name, fit.name), (tt, fit.kind), (fit.shape, fit.second), refl))

abbrev IsCount : ℕ → ℕ → Type 0
IsCount limit n = (n < 2 ^ 16) × (is_in_range 1 limit n ≡ true)

each_exact : (limit : ℕ) (new : Bool) (before : List Column) (n : ℕ) → is_in_range 1 limit n ≡ true
    → IsExact (λ cs. FitColumns limit new before cs × (length cs ≡ n)) (flat_map column_bytes) (each_at (column_at new) n before)
each_exact limit new before n counts =
    let most = ends 1 limit n counts in
    exact_as (AreEach (FitsColumn new) n before) (λ cs. FitColumns limit new before cs × (length cs ≡ n)) (flat_map column_bytes) (flat_map column_bytes)
    (each_at (column_at new) n before) (each_at (column_at new) n before)
    (exact_each (FitsColumn new) column_bytes (column_at new) (column_exact new) n before)
    (λ cs fit. ((omega (arith, fit.0, most.0), omega (arith, fit.0, most.1), fit.1), fit.0)) (λ cs fit. (fit.1, fit.0.2)) (λ cs. refl) (λ left. refl)

pub columns_exact : (limit : ℕ) (new : Bool) (before : List Column) → limit ≤ COLUMN_LIMIT → IsExact (FitColumns limit new before) columns_bytes (columns_at limit new before)
unfolding columns_at
columns_exact limit new before few =
    exact_then (IsCount limit) u16 (checked (is_in_range 1 limit) u16_at) (FitColumns limit new before) columns_bytes (λ n cs. length cs ≡ n)
    (λ n cs. flat_map column_bytes cs) (λ left n after. each_at (column_at new) n before after)
    (exact_checked (λ n. n < 2 ^ 16) u16 u16_at (is_in_range 1 limit) u16_field.exact)
    (λ left n fit. each_exact limit new before n fit.1)
    (λ cs fit. (length cs, (omega (arith, fit.1), within 1 limit (length cs) fit.0 fit.1), refl))
    (λ n cs fit is. ap (λ (m : ℕ). u16 m ++ flat_map column_bytes cs) is)

each_short : (new : Bool) (before columns : List Column) → EachFits (FitsColumn new) before columns → AllByRecursion (λ c. length c.name < 2 ^ 16) columns
each_short new before [] fit = tt
each_short new before (c ∷ cs) fit = (column_short before c.name fit.0.name, each_short new (before ++ c ∷ []) cs fit.1)

pub columns_spelled : (limit : ℕ) (new : Bool) (before columns : List Column) → limit ≤ COLUMN_LIMIT → FitColumns limit new before columns → HaveRoom columns
columns_spelled limit new before columns few fit = (omega (arith, fit.1), each_short new before columns fit.2)

-- ---- schemas

abbrev IsNext : List TableSchema → ℕ → Type 0
IsNext tables n = (n < 2 ^ 16) × (is_next_table (length tables) n ≡ true)

next_of : (count n : ℕ) → is_next_table count n ≡ true → (n ≡ count) × (n < TABLE_LIMIT)
next_of count n e = let both = and_parts _ (nat_lt n TABLE_LIMIT) e in (eqb-true n count both.0, ltb-true n TABLE_LIMIT both.1)

is_next : (count n : ℕ) → n ≡ count → n < TABLE_LIMIT → is_next_table count n ≡ true
is_next count n same few = and_from _ (nat_lt n TABLE_LIMIT) (eq-eqb n count same) (lt-ltb n TABLE_LIMIT few)

fits_table : (tables : List TableSchema) (number : ℕ) (name : List ℕ) (columns : List Column) (options : Options) → IsNext tables number
    → (length name < 2 ^ 16) × (is_new_table tables name ≡ true) → FitColumns COLUMN_LIMIT true [] columns → FitsOptions options
    → FitsTable tables (record { number = number; name = name; columns = columns; options = options })
fits_table tables number name columns options fit-n fit-name fit-c fit-o =
    let next = next_of (length tables) number fit-n.1 in
    record { number = next.0; few = next.1; name = fit-name.1; columns = fit-c; options = fit-o }

pub schema_exact : (tables : List TableSchema) → IsExact (FitsTable tables) schema_bytes (schema_at tables)
unfolding schema_at
schema_exact tables =
    exact_four (IsNext tables) u16 (checked (is_next_table (length tables)) u16_at)
    (λ n name. (length name < 2 ^ 16) × (is_new_table tables name ≡ true)) bytes16 (λ n. checked (is_new_table tables) bytes16_at)
    (λ n name cs. FitColumns COLUMN_LIMIT true [] cs) columns_bytes (λ n name. columns_at COLUMN_LIMIT true [])
    (λ n name cs o. FitsOptions o) options_bytes (λ n name cs. options_at)
    (FitsTable tables) schema_bytes (λ n name cs o. record { number = n; name = name; columns = cs; options = o })
    (exact_checked (λ n. n < 2 ^ 16) u16 u16_at (is_next_table (length tables)) u16_field.exact)
    (λ n fit. exact_checked (λ name. length name < 2 ^ 16) bytes16 bytes16_at (is_new_table tables) bytes16_field.exact)
    (λ n name fit-n fit-name. columns_exact COLUMN_LIMIT true [] (omega arith))
    (λ n name cs fit-n fit-name fit-cs. options_exact)
    (λ n name cs o fit-n fit-name fit-cs fit-o. (fits_table tables n name cs o fit-n fit-name fit-cs fit-o, refl))
    (λ t fit. (
      t.number,
      t.name,
      t.columns,
      t.options,
      (omega (arith, fit.few), is_next (length tables) t.number fit.number fit.few),
      (table_short tables t.name fit.name, fit.name),
      fit.columns,
      fit.options,
      refl,
    ))

pub spelled : (tables : List TableSchema) (t : TableSchema) → FitsTable tables t → HasSpelling t
spelled tables t fit = record {
  name = table_short tables t.name fit.name;
  columns = columns_spelled COLUMN_LIMIT true [] t.columns (omega arith) fit.columns;
}
