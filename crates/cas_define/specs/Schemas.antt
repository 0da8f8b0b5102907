-- The table that a CREATE TABLE makes, and the columns that an ALTER TABLE adds.
-- CQL documentation, "Data definition: CREATE TABLE, the primary key, static columns, clustering order; ALTER TABLE".
-- That the key's columns stand before the others is own.
use Rattle.std.specs.Prelude.{ℕ, Bool, false, ◌&&◌, List, [], ◌∷◌, ◌++◌, map, length, Option, None, Some, option_map, slice_get, if◌then◌else◌}
use Rattle.std.specs.List.{find, filter_map, list_any}
use Rattle.std.specs.Option.{option_map_or}
use Rattle.std.specs.Str.{bytes_eq}
use Rattle.cas_types.specs.declared.tag.TypeTag.{TypeTag}
use Rattle.cas_types.specs.declared.schema.Column.{Column}
use Rattle.cas_types.specs.declared.schema.Kind.{Kind}
use Rattle.cas_types.specs.declared.schema.Kind.TheVariants as kind
use Rattle.cas_types.specs.declared.schema.Shape.{Shape}
use Rattle.cas_types.specs.declared.schema.Shape.TheVariants as shape
use Rattle.cas_types.specs.declared.schema.TableSchema.{TableSchema}
use Rattle.cql_parse.specs.declared.syntax.CreateTable.{CreateTable}
use Rattle.cql_parse.specs.declared.syntax.AlterTable.{AlterTable}
use Rattle.cql_parse.specs.declared.syntax.AddedColumn.{AddedColumn}
use Rattle.cql_parse.specs.declared.syntax.DefinedColumn.{DefinedColumn}
use Rattle.cql_parse.specs.declared.syntax.PrimaryKey.{PrimaryKey}
use Rattle.cql_parse.specs.declared.syntax.ColumnType.{ColumnType}
use Rattle.cql_parse.specs.declared.syntax.ColumnType.TheVariants as column_type
use Rattle.cql_parse.specs.declared.syntax.Item.{Item}
use Rattle.cql_parse.specs.declared.syntax.Item.TheVariants as item
use Rattle.cql_parse.specs.declared.syntax.TableOption.{TableOption}
use Rattle.cql_parse.specs.declared.syntax.TableOption.TheVariants as table_option
use Rattle.cas_options.specs.Options.{options_of}
use Rattle.cas_define.specs.declared.addition.Addition.{Addition}

-- ---- types

-- one value, a set, a list or a map
unfoldable pub shape_of : ColumnType → Shape
shape_of (column_type.One t) = shape.One
shape_of (column_type.SetOf t) = shape.Set
shape_of (column_type.ListOf t) = shape.List
shape_of (column_type.MapOf k v) = shape.Map

-- the type of the value, of the elements, or of a map's keys
unfoldable pub first_type : ColumnType → TypeTag
first_type (column_type.One t) = t
first_type (column_type.SetOf t) = t
first_type (column_type.ListOf t) = t
first_type (column_type.MapOf k v) = k

-- the type of a map's values
unfoldable pub second_type : ColumnType → Option TypeTag
second_type (column_type.MapOf k v) = Some v
second_type _ = None

-- a column of the kind, with its name and its type: `l list<text>` is a column `l` of the shape List and the type Text
abbrev pub column_of : Kind → List ℕ → ColumnType → Column
column_of k n t = record { name = n; kind = k; shape = shape_of t; tag = first_type t; second = second_type t }

-- ---- what a CREATE TABLE says

-- the column of an item; PRIMARY KEY (..) is none
unfoldable pub column_item : Item → Option DefinedColumn
column_item (item.Column c) = Some c
column_item (item.PrimaryKey k) = None

-- the columns that are defined, in their order
unfoldable pub columns_defined : List Item → List DefinedColumn
columns_defined items = filter_map column_item items

-- the column that is defined by the name
unfoldable pub defined_named : List DefinedColumn → List ℕ → Option DefinedColumn
defined_named ds n = find (λ d. bytes_eq d.name n) ds

-- PRIMARY KEY (..), or PRIMARY KEY after a column, which is then the partition key
unfoldable pub key_item : Item → Option PrimaryKey
key_item (item.Column c) = if c.is_key then Some (record { partition = c.name ∷ []; clustering = [] }) else None
key_item (item.PrimaryKey k) = Some k

-- the keys that are said; a CREATE TABLE with none, or with two, is refused
unfoldable pub keys_said : List Item → List PrimaryKey
keys_said items = filter_map key_item items

-- the columns of a key, in its order
abbrev pub key_names : PrimaryKey → List (List ℕ)
key_names k = k.partition ++ k.clustering

-- a CLUSTERING ORDER BY has the column with DESC
unfoldable pub orders_descending : List ℕ → TableOption → Bool
orders_descending n (table_option.ClusteringOrder os) = list_any (λ o. bytes_eq o.name n && o.descending) os
orders_descending n (table_option.Named o) = false

-- ---- the columns

-- of a column outside the key
unfoldable pub other_kind : Bool → Kind
other_kind is_static = if is_static then kind.Static else kind.Regular

-- what a column of the key is
unfoldable pub key_kind : List TableOption → PrimaryKey → List ℕ → Kind
key_kind options k n =
    if list_any (bytes_eq n) k.partition then kind.Partition
    else if list_any (orders_descending n) options then kind.Descending
    else kind.Ascending

-- the column of the key by the name
unfoldable pub key_column : List TableOption → List DefinedColumn → PrimaryKey → List ℕ → Option Column
key_column options ds k n = option_map (λ d. column_of (key_kind options k n) d.name d.column_type) (defined_named ds n)

-- the column, unless it is of the key
unfoldable pub other_column : PrimaryKey → DefinedColumn → Option Column
other_column k d = if list_any (bytes_eq d.name) (key_names k) then None else Some (column_of (other_kind d.is_static) d.name d.column_type)

-- the columns of the key in its order, then the others as they are defined
unfoldable pub columns_with : List TableOption → List DefinedColumn → PrimaryKey → List Column
columns_with options ds k = filter_map (key_column options ds k) (key_names k) ++ filter_map (other_column k) ds

-- the columns of the table, of which there are none without a key
unfoldable pub columns_of : CreateTable → List Column
columns_of c = option_map_or (columns_with c.options (columns_defined c.items)) (slice_get (keys_said c.items) 0) []

-- the table, whose number is that of the tables before it
unfoldable pub schema_of : List TableSchema → CreateTable → TableSchema
schema_of tables c = record { number = length tables; name = c.table.name; columns = columns_of c; options = options_of c.options }

-- ---- ALTER TABLE ADD

-- `s int STATIC` is a static column, `v int` a regular one
unfoldable pub added_column : AddedColumn → Column
added_column a = column_of (other_kind a.is_static) a.name a.column_type

-- what is added to the table, in the order of the statement
unfoldable pub addition_of : TableSchema → AlterTable → Addition
addition_of t a = record { table = t.number; columns = map added_column a.added }
