-- The terms that a statement gives its columns, and the values that they are of the primary key.
-- CQL documentation, "Data manipulation: INSERT; the WHERE clause" and "Data definition: the primary key".
use Rattle.std.specs.Prelude.{ℕ, Bool, true, false, ◌&&◌, List, [], ◌∷◌, Option, None, Some, is_none, option_map, if◌then◌else◌}
use Rattle.std.specs.Str.{bytes_eq}
use Rattle.std.specs.List.{find, filter_map}
use Rattle.cas_types.specs.Keys.{key_of}
use Rattle.cas_types.specs.declared.schema.Column.{Column}
use Rattle.cql_parse.specs.declared.term.Term.{Term}
use Rattle.cql_parse.specs.declared.syntax.Operator.{Operator}
use Rattle.cql_parse.specs.declared.syntax.Operator.TheVariants as operator
use Rattle.cql_parse.specs.declared.syntax.Relation.{Relation}
use Rattle.cas_terms.specs.Columns.{partition_columns}
use Rattle.cas_terms.specs.Terms.{term_value}

-- the term that each name is given, where it is given one
abbrev pub TermOf : Type 0
TermOf = List ℕ → Option Term

-- `=`
unfoldable pub is_equal : Operator → Bool
is_equal operator.Equal = true
is_equal _ = false

-- by a WHERE: the term of the name's first `=`, as 1 for k in `WHERE k = 1 AND c > 2`
unfoldable pub term_in_where : List Relation → TermOf
term_in_where rs n = option_map (λ r. r.value) (find (λ r. bytes_eq r.column n && is_equal r.operator) rs)

-- by an INSERT: the term that stands at the name's place, as 1 for k in `(k, c) VALUES (1, 2)`
unfoldable pub term_in_insert : List (List ℕ) → List Term → TermOf
term_in_insert [] ts n = None
term_in_insert (m ∷ ms) [] n = None
term_in_insert (m ∷ ms) (t ∷ ts) n = if bytes_eq m n then Some t else term_in_insert ms ts n

-- null, a literal and a constant of another type are no value
abbrev pub value_of_term : Column → Option Term → Option (List ℕ)
value_of_term c None = None
value_of_term c (Some t) = term_value c.tag t

-- the value that a column is given, where it is given one of its type
abbrev pub value_in : TermOf → Column → Option (List ℕ)
value_in terms c = value_of_term c (terms c.name)

-- the column is given no value: none at all, null, or one of another type
unfoldable pub is_missing : TermOf → Column → Bool
is_missing terms c = is_none (value_in terms c)

-- the bytes of the partition key, from the values of its columns in the key's order
unfoldable pub partition_key : TermOf → List Column → List ℕ
partition_key terms cs = key_of (filter_map (value_in terms) (partition_columns cs))

-- where there is no value the others count no more
abbrev pub in_front : Option (List ℕ) → List (List ℕ) → List (List ℕ)
in_front None vs = []
in_front (Some v) vs = v ∷ vs

-- the values of the columns from the first on, as far as each has one
unfoldable pub prefix_values : TermOf → List Column → List (List ℕ)
prefix_values terms [] = []
prefix_values terms (c ∷ cs) = in_front (value_in terms c) (prefix_values terms cs)

-- the first column that is given no value
unfoldable pub first_missing : TermOf → List Column → Option Column
first_missing terms cs = find (is_missing terms) cs
