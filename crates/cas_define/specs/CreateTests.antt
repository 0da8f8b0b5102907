-- What makes the definition of a CREATE TABLE a bad one, which `CreateReasons` refuses.
-- CQL documentation, "Data definition: CREATE TABLE, the primary key, static columns, clustering order".
use Rattle.std.specs.Prelude.{ℕ, ◌==◌, nat_lt, nat_le, Bool, true, false, not, ◌&&◌, ◌||◌, List, [], ◌∷◌, map, filter, length, Option, None, Some}
use Rattle.std.specs.List.{filter_map, list_all, list_any, zip}
use Rattle.std.specs.Option.{option_map_or}
use Rattle.std.specs.Str.{bytes_eq}
use Rattle.cas_types.specs.Schemas.{is_plain}
use Rattle.cql_parse.specs.declared.syntax.CreateTable.{CreateTable}
use Rattle.cql_parse.specs.declared.syntax.DefinedColumn.{DefinedColumn}
use Rattle.cql_parse.specs.declared.syntax.PrimaryKey.{PrimaryKey}
use Rattle.cql_parse.specs.declared.syntax.TableOption.{TableOption}
use Rattle.cql_parse.specs.declared.syntax.TableOption.TheVariants as table_option
use Rattle.cas_terms.specs.Names.{stands_twice}
use Rattle.cas_define.specs.Limits.{has_name_length, is_table_name}
use Rattle.cas_define.specs.Schemas.{shape_of, columns_defined, defined_named, keys_said, key_names}

-- the key can have the column: it is defined, and neither a collection nor static
unfoldable pub may_be_key : List DefinedColumn → List ℕ → Bool
may_be_key ds n = option_map_or (λ d. is_plain (shape_of d.column_type) && not d.is_static) (defined_named ds n) false

-- a CLUSTERING ORDER BY names all clustering columns in their order: `(c DESC, d)` of the key (k, c, d), and neither `(c)` nor `(d, c)`
unfoldable pub order_fits : List (List ℕ) → TableOption → Bool
order_fits ns (table_option.ClusteringOrder os) = (length os == length ns) && list_all (λ p. bytes_eq p.0.name p.1) (zip os ns)
order_fits ns (table_option.Named o) = true

-- the option is a CLUSTERING ORDER BY
unfoldable pub is_order : TableOption → Bool
is_order (table_option.ClusteringOrder os) = true
is_order (table_option.Named o) = false

-- there is at most one CLUSTERING ORDER BY, and it fits
unfoldable pub orders_fit : List (List ℕ) → List TableOption → Bool
orders_fit ns options = list_all (order_fits ns) options && nat_le (length (filter is_order options)) 1

-- a static column only in a table that has clustering columns
unfoldable pub statics_fit : List (List ℕ) → List DefinedColumn → Bool
statics_fit ns ds = nat_lt 0 (length ns) || not (list_any (λ d. d.is_static) ds)

-- the table can have the key: it begins with a partition key, and each of its columns may be one, and stands in it once
unfoldable pub key_fits_table : CreateTable → PrimaryKey → Bool
key_fits_table c k =
    nat_lt 0 (length k.partition) && (list_all (may_be_key (columns_defined c.items)) (key_names k) && (not (stands_twice (key_names k))
    && (orders_fit k.clustering c.options && statics_fit k.clustering (columns_defined c.items))))

-- just one PRIMARY KEY, which the table can have
unfoldable pub one_key_fits : CreateTable → List PrimaryKey → Bool
one_key_fits c (k ∷ []) = key_fits_table c k
one_key_fits c _ = false

-- the names of the columns that are defined
abbrev pub names_defined : List DefinedColumn → List (List ℕ)
names_defined ds = map (λ d. d.name) ds

-- the name of an option; CLUSTERING ORDER BY has none
unfoldable pub option_name : TableOption → Option (List ℕ)
option_name (table_option.Named o) = Some o.name
option_name (table_option.ClusteringOrder os) = None

-- the names of the options
unfoldable pub option_names : List TableOption → List (List ℕ)
option_names os = filter_map option_name os

-- there isn't one key that fits, as in `(k int)`; a column or an option stands twice, as in `(k int PRIMARY KEY, v int, v text)`;
-- or a table or a column has a name that it can't have
unfoldable pub create_is_malformed : CreateTable → Bool
create_is_malformed c =
    not (one_key_fits c (keys_said c.items)) || (stands_twice (names_defined (columns_defined c.items)) || (stands_twice (option_names c.options)
    || (not (is_table_name c.table.name) || not (list_all has_name_length (names_defined (columns_defined c.items))))))
