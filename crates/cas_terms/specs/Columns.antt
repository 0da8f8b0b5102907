-- The tables and their columns, by name.
-- CQL documentation, "Data definition: keyspaces; CREATE TABLE; the primary key". There is one keyspace, `local` (own).
use Rattle.std.specs.Prelude.{ℕ, Bool, true, false, List, filter, Option, None, Some, is_none, codes, if◌then◌else◌}
use Rattle.std.specs.List.{enumerate_from, find}
use Rattle.std.specs.Option.{option_map_or}
use Rattle.std.specs.Str.{bytes_eq}
use Rattle.cas_types.specs.Schemas.{is_partition, is_clustering, is_key, is_static, path_type}
use Rattle.cas_types.specs.declared.schema.Column.{Column}
use Rattle.cas_types.specs.declared.schema.TableSchema.{TableSchema}
use Rattle.cas_atoms.specs.declared.atom.ColumnRef.{ColumnRef}
use Rattle.cql_parse.specs.declared.syntax.TableName.{TableName}

-- `t` and `local.t` are of the one keyspace, `other.t` is not
unfoldable pub is_local : Option (List ℕ) → Bool
is_local None = true
is_local (Some k) = bytes_eq k (codes "local")

-- the table that a statement names, where there is one
unfoldable pub table_named : List TableSchema → TableName → Option TableSchema
table_named tables n = if is_local n.keyspace then find (λ t. bytes_eq t.name n.name) tables else None

-- the column of that name, where the table has one
unfoldable pub column_named : List Column → List ℕ → Option Column
column_named cs n = find (λ c. bytes_eq c.name n) cs

-- the column of that name with its number in the table, from 0 on
abbrev pub located : List Column → List ℕ → Option (ℕ × Column)
located cs n = find (λ p. bytes_eq p.1.name n) (enumerate_from 0 cs)

-- no column of the table has the name, as `x` in `SELECT x` of a table without it
unfoldable pub is_unknown : List Column → List ℕ → Bool
is_unknown cs n = is_none (column_named cs n)

-- the name is that of a STATIC column
unfoldable pub names_static : List Column → List ℕ → Bool
names_static cs n = option_map_or (λ c. is_static c.kind) (column_named cs n) false

-- the name is that of a column of the partition key
unfoldable pub names_partition : List Column → List ℕ → Bool
names_partition cs n = option_map_or (λ c. is_partition c.kind) (column_named cs n) false

-- the name is that of a column of the primary key
unfoldable pub names_key : List Column → List ℕ → Bool
names_key cs n = option_map_or (λ c. is_key c.kind) (column_named cs n) false

-- the columns of the partition key, in the key's order
abbrev pub partition_columns : List Column → List Column
partition_columns cs = filter (λ c. is_partition c.kind) cs

-- the clustering columns, in the key's order
abbrev pub clustering_columns : List Column → List Column
clustering_columns cs = filter (λ c. is_clustering c.kind) cs

-- the column as an atom names it: by its number, with the type of its elements or keys, by which they are told apart
abbrev pub column_ref : ℕ → Column → ColumnRef
column_ref n c = record { number = n; path = path_type c.shape c.tag }
