-- Which restrictions a WHERE may have.
-- CQL documentation, "Data manipulation: SELECT, the WHERE clause; UPDATE; DELETE".
use Rattle.std.specs.Prelude.{ℕ, ◌==◌, nat_le, Bool, true, false, ◌&&◌, List, [], ◌∷◌, if◌then◌else◌}
use Rattle.std.specs.Str.{bytes_eq}
use Rattle.std.specs.List.{list_all, count_by}
use Rattle.cas_types.specs.declared.schema.Column.{Column}
use Rattle.cql_parse.specs.declared.syntax.Operator.{Operator}
use Rattle.cql_parse.specs.declared.syntax.Operator.TheVariants as operator
use Rattle.cql_parse.specs.declared.syntax.Relation.{Relation}
use Rattle.cas_where.specs.declared.restrictions.Extent.{Extent}
use Rattle.cas_where.specs.declared.restrictions.Extent.TheVariants as extent
use Rattle.cas_terms.specs.Columns.{names_key, partition_columns, clustering_columns}
use Rattle.cas_keys.specs.KeyTerms.{is_equal}

-- `>` and `>=`
unfoldable pub is_lower : Operator → Bool
is_lower operator.Greater = true
is_lower operator.AtLeast = true
is_lower _ = false

-- `<` and `<=`
unfoldable pub is_upper : Operator → Bool
is_upper operator.Less = true
is_upper operator.AtMost = true
is_upper _ = false

-- how many restrictions of the sort the name has
unfoldable pub count_on : (Operator → Bool) → List Relation → List ℕ → ℕ
count_on sort rs n = count_by (λ r. bytes_eq r.column n && sort r.operator) rs

-- how many restrictions the name has
unfoldable pub count_all : List Relation → List ℕ → ℕ
count_all rs n = count_by (λ r. bytes_eq r.column n) rs

-- by one `=` and nothing else
unfoldable pub is_fixed : List Relation → Column → Bool
is_fixed rs c = (count_on is_equal rs c.name == 1) && (count_all rs c.name == 1)

-- by a lower bound, an upper bound, both or neither
unfoldable pub is_bounded : List Relation → Column → Bool
is_bounded rs c = (count_on is_equal rs c.name == 0) && (nat_le (count_on is_lower rs c.name) 1 && nat_le (count_on is_upper rs c.name) 1)

-- not at all
unfoldable pub is_free : List Relation → Column → Bool
is_free rs c = count_all rs c.name == 0

-- the first columns by `=`, then at most one by bounds, and no other, as `c = 1 AND d > 2` of the clustering columns c, d and e
unfoldable pub makes_slice : List Relation → List Column → Bool
makes_slice rs [] = true
makes_slice rs (c ∷ cs) = if is_fixed rs c then makes_slice rs cs else is_bounded rs c && list_all (is_free rs) cs

-- no clustering column is restricted
unfoldable pub is_clustering_free : List Relation → List Column → Bool
is_clustering_free rs cs = list_all (is_free rs) (clustering_columns cs)

-- each clustering column is restricted by one `=`
unfoldable pub is_clustering_fixed : List Relation → List Column → Bool
is_clustering_fixed rs cs = list_all (is_fixed rs) (clustering_columns cs)

-- one partition: the WHERE is of columns of the primary key alone, and has each one of the partition key by one `=`
unfoldable pub is_of_one_partition : List Column → List Relation → Bool
is_of_one_partition cs rs = list_all (λ r. names_key cs r.column) rs && list_all (is_fixed rs) (partition_columns cs)

-- the rows that a WHERE may pick: a slice of the partition; one row; or, for its static row, the partition alone
unfoldable pub picks_rows : Extent → List Column → List Relation → Bool
picks_rows extent.Slice cs rs = makes_slice rs (clustering_columns cs)
picks_rows extent.Row cs rs = is_clustering_fixed rs cs
picks_rows extent.StaticRow cs rs = is_clustering_free rs cs

-- the WHERE is one that a statement of that extent may have
unfoldable pub restricts : Extent → List Column → List Relation → Bool
restricts e cs rs = is_of_one_partition cs rs && picks_rows e cs rs
