-- What a SELECT asks of a partition: which columns, in which order, and of which rows.
-- CQL documentation, "Data manipulation: SELECT"; the order of `*` is own: partition key, clustering columns, then the static ones
-- and then the others, each by name.
use Rattle.std.specs.Prelude.{ℕ, Bool, false, not, List, [], ◌∷◌, ◌++◌, map, filter, Option, option_map, unsigned_abs, Result}
use Rattle.std.specs.List.{enumerate_from, position_or_len}
use Rattle.std.specs.Str.{bytes_eq}
use Rattle.std.specs.BTreeMap.{insert_entry}
use Rattle.cas_types.specs.Keys.{shard_of}
use Rattle.cas_types.specs.Schemas.{is_partition, is_clustering, is_static, is_regular}
use Rattle.cas_types.specs.Values.{bytes_cmp}
use Rattle.cas_types.specs.declared.schema.Column.{Column}
use Rattle.cas_types.specs.declared.schema.Kind.{Kind}
use Rattle.cas_types.specs.declared.schema.TableSchema.{TableSchema}
use Rattle.cas_atoms.specs.declared.query.Pick.{Pick as Asked}
use Rattle.cas_atoms.specs.declared.query.Pick.TheVariants as asked
use Rattle.cql_parse.specs.declared.syntax.Select.{Select}
use Rattle.cql_parse.specs.declared.syntax.Pick.{Pick}
use Rattle.cql_parse.specs.declared.syntax.Pick.TheVariants as pick
use Rattle.cql_parse.specs.declared.syntax.Picks.{Picks}
use Rattle.cql_parse.specs.declared.syntax.Picks.TheVariants as picks
use Rattle.cas_terms.specs.Columns.{clustering_columns}
use Rattle.cas_keys.specs.KeyTerms.{term_in_where, partition_key}
use Rattle.cas_where.specs.Slices.{slice_of, follows_order}
use Rattle.cas_effects.specs.Refusals.{refusal_for}
use Rattle.cas_effects.specs.TooLarge.{too_large}
use Rattle.cas_effects.specs.declared.refusal.Refusal.{Refusal}
use Rattle.cas_define.specs.Outcomes.{outcome}
use Rattle.cas_reasons.specs.RowReasons.{row_reasons}
use Rattle.cql_parse.specs.declared.syntax.Statement.TheVariants as statement
use Rattle.cas_bind.specs.declared.bound.BoundRead.{BoundRead}

-- ---- the columns of `*`

-- the columns of a kind with their numbers, in the table's order
abbrev pub numbered : (Kind → Bool) → List Column → List (ℕ × Column)
numbered test cs = filter (λ p. test p.1.kind) (enumerate_from 0 cs)

-- each name with its number, in the order of the names
abbrev pub by_name : List (ℕ × Column) → List (List ℕ × ℕ)
by_name [] = []
by_name (p ∷ ps) = insert_entry bytes_cmp (by_name ps) p.1.name p.0

-- the numbers of the columns of a kind, by name
unfoldable pub named_numbers : (Kind → Bool) → List Column → List ℕ
named_numbers test cs = map (λ e. e.1) (by_name (numbered test cs))

-- the numbers of the columns of the primary key, in the key's order
unfoldable pub key_numbers : List Column → List ℕ
key_numbers cs = map (λ p. p.0) (numbered is_partition cs) ++ map (λ p. p.0) (numbered is_clustering cs)

-- the partition key, the clustering columns, the static columns by name, the others by name
unfoldable pub all_numbers : List Column → List ℕ
all_numbers cs = key_numbers cs ++ (named_numbers is_static cs ++ named_numbers is_regular cs)

-- ---- what is asked

-- the number of the column of that name
unfoldable pub number_named : List Column → List ℕ → ℕ
number_named cs n = position_or_len (λ c. bytes_eq c.name n) cs

-- `v`, `WRITETIME(v)`, `TTL(v)`, by the column's number
unfoldable pub asked_of : List Column → Pick → Asked
asked_of cs (pick.Value n) = asked.Value (number_named cs n)
asked_of cs (pick.WriteTime n) = asked.WriteTime (number_named cs n)
asked_of cs (pick.Ttl n) = asked.Ttl (number_named cs n)

-- `*`, or what is named, in the order in which it is named
unfoldable pub asked_by : List Column → Picks → List Asked
asked_by cs picks.All = map (λ n. asked.Value n) (all_numbers cs)
asked_by cs (picks.These ps) = map (asked_of cs) ps

-- a SELECT: its partition, its slice, and what it shows of each row; an ORDER BY that isn't the table's order reverses it
unfoldable pub bound_select : ℕ → TableSchema → Select → BoundRead
bound_select shards t s =
    let key : List ℕ = partition_key (term_in_where s.relations) t.columns in
    record {
      shard = shard_of key shards;
      query = record {
        table = t.number;
        columns = t.columns;
        key = key;
        slice = slice_of t.columns s.relations;
        reversed = not (follows_order false (clustering_columns t.columns) s.order);
        limit = option_map unsigned_abs s.limit;
        picks = asked_by t.columns s.picks;
      };
    }

-- the refusal of the first of the key and of the slice's values that has more than 65,535 bytes
unfoldable pub read_too_large : BoundRead → Option Refusal
read_too_large r = too_large (r.query.key ∷ (r.query.slice.lo.prefix ++ r.query.slice.hi.prefix))

-- a SELECT of the table: what it asks of its partition, or the refusal
unfoldable pub select_means : ℕ → TableSchema → Select → Result BoundRead Refusal
select_means shards t s = outcome (refusal_for (row_reasons t (read_too_large (bound_select shards t s)) (statement.Select s))) (bound_select shards t s)
