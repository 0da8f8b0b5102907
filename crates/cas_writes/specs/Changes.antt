-- What INSERT, UPDATE and DELETE do to a partition.
-- CQL documentation, "Data manipulation: INSERT, UPDATE, DELETE; USING TIMESTAMP and USING TTL" and "Data definition: static columns".
use Rattle.std.specs.Prelude.{ℕ, Bool, List, [], ◌∷◌, ◌++◌, Option, None, Some, option_map, unwrap_or, unsigned_abs, if◌then◌else◌}
use Rattle.std.specs.List.{flat_map}
use Rattle.cas_types.specs.Keys.{shard_of}
use Rattle.cas_types.specs.Schemas.{is_static, is_key, is_plain, type_or_blob}
use Rattle.cas_types.specs.declared.schema.Column.{Column}
use Rattle.cas_types.specs.declared.schema.TableSchema.{TableSchema}
use Rattle.cas_bounds.specs.declared.cuts.Clustering.{Clustering}
use Rattle.cas_bounds.specs.declared.cuts.Slice.{Slice}
use Rattle.cql_parse.specs.declared.term.Constant.{Constant}
use Rattle.cql_parse.specs.declared.term.Term.{Term}
use Rattle.cql_parse.specs.declared.syntax.Statement.{Statement}
use Rattle.cql_parse.specs.declared.syntax.Statement.TheVariants as statement
use Rattle.cql_parse.specs.declared.syntax.Assigned.{Assigned}
use Rattle.cql_parse.specs.declared.syntax.Assigned.TheVariants as assigned
use Rattle.cql_parse.specs.declared.syntax.Target.{Target}
use Rattle.cql_parse.specs.declared.syntax.Relation.{Relation}
use Rattle.cas_bounds.specs.ClusteringOrder.{clustering_order}
use Rattle.cas_terms.specs.Columns.{located, clustering_columns, column_ref}
use Rattle.cas_terms.specs.Constants.{constant_bytes}
use Rattle.cas_keys.specs.KeyTerms.{TermOf, term_in_where, prefix_values, partition_key}
use Rattle.cas_where.specs.Slices.{slice_of}
use Rattle.cas_reasons.specs.Extents.{inserts_static}
use Rattle.cas_mentions.specs.Mentions.{Change, assigns, deletes, changes_of}
use Rattle.cas_reasons.specs.Statements.{key_terms_of, uses_of, timestamp_in, ttl_in}
use Rattle.cas_terms.specs.Terms.{term_value, given_elements, whole_elements, prepended_elements, removed_elements, entry_elements}
use Rattle.cas_where.specs.Where.{is_clustering_free, is_clustering_fixed}
use Rattle.cas_effects.specs.declared.effect.BoundWrite.{BoundWrite}
use Rattle.cas_effects.specs.declared.effect.Effect.{Effect}
use Rattle.cas_effects.specs.declared.effect.Effect.TheVariants as effect

-- ---- what becomes of a column

-- a static column is written in the static row
abbrev pub row_for : Clustering → Column → Option Clustering
row_for row c = if is_static c.kind then None else Some row

-- a column is given a term as its whole value
unfoldable pub whole_effect : Clustering → ℕ → Column → Term → Effect
whole_effect row n c t =
    if is_plain c.shape then effect.Plain (row_for row c) (column_ref n c) (term_value c.tag t)
    else effect.Whole (row_for row c) (column_ref n c) (whole_elements c t)

-- `c = t`, `c = c + x`, `c = x + c`, `c = c - x`, `c[k] = t`
unfoldable pub assigned_effect : Clustering → ℕ → Column → Assigned → Effect
assigned_effect row n c (assigned.Whole t) = whole_effect row n c t
assigned_effect row n c (assigned.Append d x) = effect.Parts (row_for row c) (column_ref n c) (given_elements c x)
assigned_effect row n c (assigned.Prepend x d) = effect.Parts (row_for row c) (column_ref n c) (prepended_elements c.tag x)
assigned_effect row n c (assigned.Remove d x) = effect.Parts (row_for row c) (column_ref n c) (removed_elements c.tag x)
assigned_effect row n c (assigned.Entry k t) =
    effect.Parts (row_for row c) (column_ref n c) (entry_elements (constant_bytes c.tag k) (term_value (type_or_blob c.second) t))

-- DELETE of a column, `DELETE v`, or of an entry of a map, `DELETE m[k]`
unfoldable pub deleted_effect : Clustering → ℕ → Column → Option Constant → Effect
deleted_effect row n c None =
    if is_plain c.shape then effect.Plain (row_for row c) (column_ref n c) None else effect.Emptied (row_for row c) (column_ref n c)
deleted_effect row n c (Some k) = effect.Parts (row_for row c) (column_ref n c) (entry_elements (constant_bytes c.tag k) None)

-- what a change does to its column, which has that number
unfoldable pub column_effect : Clustering → ℕ → Column → Change → Effect
column_effect row n c (assigns a) = assigned_effect row n c a
column_effect row n c (deletes k) = deleted_effect row n c k

-- nothing where there is no such column or it is of the primary key
abbrev pub outside_key : (ℕ → Column → Effect) → Option (ℕ × Column) → List Effect
outside_key f None = []
outside_key f (Some l) = if is_key l.1.kind then [] else f l.0 l.1 ∷ []

-- a change of a column outside the primary key; to a key column nothing is written but the row itself
unfoldable pub change_effects : List Column → Clustering → List ℕ × Change → List Effect
change_effects cs row p = outside_key (λ n c. column_effect row n c p.1) (located cs p.0)

-- ---- what becomes of rows

-- the row with the values of the clustering columns
abbrev pub clustered_row : TermOf → List Column → Clustering
clustered_row terms cs = record { values = prefix_values terms (clustering_columns cs); order = clustering_order cs }

-- DELETE of rows: by the partition key alone the partition, by all clustering columns a row, else the rows of a slice
unfoldable pub deletion_effect : List Column → List Relation → Effect
deletion_effect cs rs =
    if is_clustering_free rs cs then effect.Partition
    else if is_clustering_fixed rs cs then effect.Row (clustered_row (term_in_where rs) cs)
    else (let s : Slice = slice_of cs rs in effect.Range s.lo s.hi)

-- a DELETE that names columns deletes no row
abbrev pub deletion_effects : List Target → Effect → List Effect
deletion_effects [] e = e ∷ []
deletion_effects (t ∷ ts) e = []

-- the row lives; the static row has no such mark
abbrev pub live_effect : Bool → Clustering → List Effect
live_effect is_static row = if is_static then [] else effect.Live row ∷ []

-- an INSERT writes that its row lives, unless it is of the static row; a DELETE without columns deletes rows
unfoldable pub row_effects : List Column → Statement → List Effect
row_effects cs (statement.Insert i) = live_effect (inserts_static cs i.columns) (clustered_row (key_terms_of (statement.Insert i)) cs)
row_effects cs (statement.Delete d) = deletion_effects d.targets (deletion_effect cs d.relations)
row_effects cs _ = []

-- what becomes of rows, then of each column in the order in which the statement changes them
unfoldable pub effects_of : List Column → Statement → List Effect
effects_of cs s = row_effects cs s ++ flat_map (change_effects cs (clustered_row (key_terms_of s) cs)) (changes_of s)

-- ---- what is bound

-- how many seconds live what is written: those of USING TTL, or the table's default; a DELETE writes no value, so nothing of it expires
unfoldable pub time_to_live : TableSchema → Statement → ℕ
time_to_live t (statement.Delete d) = 0
time_to_live t s = unwrap_or (option_map unsigned_abs (ttl_in (uses_of s))) t.options.default_time_to_live

-- an INSERT, UPDATE or DELETE: its partition, its timestamp, its time to live and its effects
unfoldable pub bound_change : ℕ → TableSchema → Statement → BoundWrite
bound_change shards t s =
    let key : List ℕ = partition_key (key_terms_of s) t.columns in
    record {
      table = t.number;
      shard = shard_of key shards;
      key = key;
      timestamp = timestamp_in (uses_of s);
      ttl = time_to_live t s;
      effects = effects_of t.columns s;
    }
