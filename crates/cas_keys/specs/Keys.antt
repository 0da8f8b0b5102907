-- What is wrong with the primary key that a statement gives: an empty partition key, null, or a column without a value.
-- CQL documentation, "Data definition: the primary key" and "Data manipulation: the WHERE clause".
use Rattle.std.specs.Prelude.{◌==◌, length, if◌then◌else◌, Bool, true, false, ◌&&◌, List, [], ◌∷◌, Option, None, Some}
use Rattle.std.specs.List.{list_any}
use Rattle.std.specs.Str.{bytes_eq}
use Rattle.cas_types.specs.declared.schema.Column.{Column}
use Rattle.cql_parse.specs.declared.term.Term.{Term}
use Rattle.cql_parse.specs.declared.term.Term.TheVariants as term
use Rattle.cql_parse.specs.declared.syntax.Relation.{Relation}
use Rattle.cas_terms.specs.Columns.{names_key, partition_columns, clustering_columns}
use Rattle.cas_keys.specs.KeyTerms.{TermOf, is_equal, is_missing}
use Rattle.cas_terms.specs.Constants.{gives_no_bytes}
use Rattle.cas_terms.specs.Terms.{term_value}

-- the column of a partition key of one column; a key of several columns has bytes even where none of its values has any
unfoldable pub sole_column : List Column → Option Column
sole_column [] = None
sole_column (c ∷ cs) = if length cs == 0 then Some c else None

-- a WHERE says that the column is empty, by any of its `=`
unfoldable pub restricts_to_empty : List Relation → Column → Bool
restricts_to_empty rs c = list_any (λ r. (bytes_eq r.column c.name && is_equal r.operator) && gives_no_bytes (term_value c.tag r.value)) rs

-- `null`
unfoldable pub is_null : Term → Bool
is_null term.Null = true
is_null _ = false

-- a WHERE compares a key column with null
unfoldable pub compares_key_with_null : List Column → List Relation → Bool
compares_key_with_null cs rs = list_any (λ r. names_key cs r.column && is_null r.value) rs

-- a column of the partition key is given no value
unfoldable pub lacks_partition : TermOf → List Column → Bool
lacks_partition terms cs = list_any (is_missing terms) (partition_columns cs)

-- a clustering column is given no value
unfoldable pub lacks_clustering : TermOf → List Column → Bool
lacks_clustering terms cs = list_any (is_missing terms) (clustering_columns cs)
