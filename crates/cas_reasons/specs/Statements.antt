-- What INSERT, UPDATE, DELETE and SELECT say beside what they say of single columns: what stands after USING, the terms of
-- the key, and the names that they use. What they say of columns stands in Mentions of cas_mentions.
-- CQL documentation, "Data manipulation: INSERT, UPDATE, DELETE, SELECT; USING TIMESTAMP and USING TTL".
use Rattle.std.specs.Prelude.{ℕ, ℤ, List, [], ◌∷◌, ◌++◌, map, Option, None, Some, slice_get}
use Rattle.std.specs.List.{filter_map, flat_map}
use Rattle.std.specs.Option.{option_to_list}
use Rattle.cql_parse.specs.declared.syntax.Statement.{Statement}
use Rattle.cql_parse.specs.declared.syntax.Statement.TheVariants as statement
use Rattle.cql_parse.specs.declared.syntax.Assignment.{Assignment}
use Rattle.cql_parse.specs.declared.syntax.Assigned.{Assigned}
use Rattle.cql_parse.specs.declared.syntax.Assigned.TheVariants as assigned
use Rattle.cql_parse.specs.declared.syntax.Use.{Use}
use Rattle.cql_parse.specs.declared.syntax.Use.TheVariants as using
use Rattle.cas_where.specs.KeyTerms.{TermOf, term_in_where, term_in_insert}
pub use Rattle.cas_mentions.specs.Mentions.{relations_of, picks_in, picked_name, Change, assigns, deletes, inserted, changes_of}
pub use Rattle.cas_mentions.specs.Mentions.{Mention, changes, compares, shows, shown_by, terms_used}

-- ---- USING, and the key

-- `USING TIMESTAMP n`
abbrev pub at_timestamp : Option ℤ → List Use
at_timestamp None = []
at_timestamp (Some n) = using.Timestamp n ∷ []

-- what stands after USING; a DELETE can have a TIMESTAMP alone
unfoldable pub uses_of : Statement → List Use
uses_of (statement.Insert i) = i.uses
uses_of (statement.Update u) = u.uses
uses_of (statement.Delete d) = at_timestamp d.timestamp
uses_of _ = []

-- `TIMESTAMP n`
unfoldable pub timestamp_of : Use → Option ℤ
timestamp_of (using.Timestamp n) = Some n
timestamp_of (using.Ttl n) = None

-- `TTL n`
unfoldable pub ttl_of : Use → Option ℤ
ttl_of (using.Timestamp n) = None
ttl_of (using.Ttl n) = Some n

-- the number of USING TIMESTAMP
unfoldable pub timestamp_in : List Use → Option ℤ
timestamp_in uses = slice_get (filter_map timestamp_of uses) 0

-- the number of USING TTL
unfoldable pub ttl_in : List Use → Option ℤ
ttl_in uses = slice_get (filter_map ttl_of uses) 0

-- the term that each column is given by an INSERT's values, or by the first `=` of a WHERE
unfoldable pub key_terms_of : Statement → TermOf
key_terms_of (statement.Insert i) = term_in_insert i.columns i.values
key_terms_of s = term_in_where (relations_of s)

-- ---- the names that are used

-- the other name in `c = d + x`, `c = x + d` and `c = d - x`
unfoldable pub other_name : Assigned → Option (List ℕ)
other_name (assigned.Append n x) = Some n
other_name (assigned.Prepend x n) = Some n
other_name (assigned.Remove n x) = Some n
other_name _ = None

-- `c = d + x` names c and d
abbrev pub assignment_names : Assignment → List (List ℕ)
assignment_names a = a.column ∷ option_to_list (other_name a.value)

-- the names that stand for columns: `UPDATE t SET l = l + [1] WHERE k = 1` uses l, l and k
unfoldable pub names_used : Statement → List (List ℕ)
names_used (statement.Insert i) = i.columns
names_used (statement.Update u) = flat_map assignment_names u.assignments ++ map (λ r. r.column) u.relations
names_used (statement.Delete d) = map (λ t. t.column) d.targets ++ map (λ r. r.column) d.relations
names_used (statement.Select s) = map picked_name (picks_in s.picks) ++ (map (λ r. r.column) s.relations ++ map (λ o. o.name) s.order)
names_used _ = []
