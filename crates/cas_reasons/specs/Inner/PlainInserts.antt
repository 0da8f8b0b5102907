-- A plain INSERT: one with which nothing can be wrong but the types of what it gives.
use Rattle.std.specs.Prelude.{ℕ, ◌==◌, Bool, true, false, not, ◌&&◌, List, [], ◌∷◌, length, Option, None, Some}
use Rattle.std.specs.Option.{option_map_or}
use Rattle.cas_types.specs.declared.schema.Column.{Column}
use Rattle.cas_terms.specs.Columns.{column_named, partition_columns}
use Rattle.cas_terms.specs.Names.{stands_twice}
use Rattle.cas_terms.specs.Terms.{term_fits}
use Rattle.cas_keys.specs.Inner.Sources.{has_bytes}
use Rattle.cas_where.specs.KeyTerms.{TermOf, term_in_insert, value_in}
use Rattle.cas_where.specs.Keys.{sole_column, lacks_partition, lacks_clustering}
use Rattle.cql_parse.specs.declared.syntax.Insert.{Insert}
use Rattle.cql_parse.specs.declared.term.Term.{Term}

-- there is a column of that name, and it can be given the term
abbrev pub fits_named : List Column → List ℕ → Term → Bool
fits_named cs n t = option_map_or (λ c. term_fits c t) (column_named cs n) false

-- as many names as terms, each of a column that can be given the term
abbrev pub all_fit : List Column → List (List ℕ) → List Term → Bool
all_fit cs [] [] = true
all_fit cs [] (t ∷ ts) = false
all_fit cs (n ∷ ns) [] = false
all_fit cs (n ∷ ns) (t ∷ ts) = fits_named cs n t && all_fit cs ns ts

-- a sole partition column has a value with bytes, and of several each has a value
abbrev pub good_partition : Option Column → List Column → TermOf → Bool
good_partition None cs terms = not (lacks_partition terms cs)
good_partition (Some c) cs terms = has_bytes (value_in terms c)

abbrev pub has_good_partition : List Column → TermOf → Bool
has_good_partition cs terms = good_partition (sole_column (partition_columns cs)) cs terms

-- each column of the primary key has a value
abbrev pub has_good_key : List Column → TermOf → Bool
has_good_key cs terms = has_good_partition cs terms && not (lacks_clustering terms cs)

-- one without USING, that gives the primary key its values and names no column twice
abbrev pub is_plain_insert : List Column → Insert → Bool
is_plain_insert cs i = ((length i.uses == 0) && has_good_key cs (term_in_insert i.columns i.values)) && not (stands_twice i.columns)
