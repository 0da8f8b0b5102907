-- A plain INSERT that gives columns what fits them is refused for nothing.
use Rattle.std.proofs.Common.{◌≡◌, ℕ, ℤ, ◌==◌, pos, Bool, true, false, not, ◌||◌, ◌&&◌, List, [], ◌∷◌, ◌++◌, map, length, Option, None, Some, is_none, refl, ap, sym, ◌∙◌, arith}
use Rattle.std.specs.Bool.{then_some}
use Rattle.std.specs.List.{list_any, zip}
use Rattle.std.specs.Option.{option_map_or}
use Rattle.std.proofs.lemmas.Bool.Decides.{nat_tests}
use Rattle.cas_types.specs.declared.limits.TheConstants.{LEAST_TIMESTAMP, GREATEST_TIMESTAMP, TTL_LIMIT}
use Rattle.cas_types.specs.declared.schema.Column.{Column}
use Rattle.cas_types.specs.declared.schema.TableSchema.{TableSchema}
use Rattle.cas_effects.specs.Refusals.{first_of, refusal_for}
use Rattle.cas_effects.specs.declared.reasons.Reasons.{Reasons}
use Rattle.cas_effects.specs.declared.refusal.Refusal.{Refusal}
use Rattle.cas_terms.specs.Columns.{column_named, is_unknown, partition_columns}
use Rattle.cas_terms.specs.Constants.{gives_no_bytes}
use Rattle.cas_terms.specs.Names.{stands_twice}
use Rattle.cas_terms.specs.Terms.{term_fits, assigned_fits}
use Rattle.cas_keys.specs.Inner.Sources.{has_bytes}
use Rattle.cas_keys.proofs.KeyLemmas.{sole_is}
use Rattle.cas_where.specs.KeyTerms.{TermOf, term_in_insert, value_in, is_missing}
use Rattle.cas_where.specs.Keys.{sole_column, lacks_partition, lacks_clustering, compares_key_with_null}
use Rattle.cql_parse.specs.declared.syntax.Insert.{Insert}
use Rattle.cql_parse.specs.declared.syntax.Use.{Use}
use Rattle.cql_parse.specs.declared.syntax.Statement.{Statement}
use Rattle.cql_parse.specs.declared.syntax.Statement.TheVariants as statement
use Rattle.cql_parse.specs.declared.term.Term.{Term}
use Rattle.cas_mentions.specs.ColumnFaults.{changes_twice, has_other_count, is_of_another_type, mention_fits}
use Rattle.cas_mentions.specs.Mentions.{changes, inserted, changes_of, terms_used, relations_of, shown_by}
use Rattle.cas_mentions.proofs.Changed.{two_inserted}
use Rattle.cas_mentions.proofs.Used.{any_map, any_term}
use Rattle.cas_reasons.specs.Extents.{extent_of}
use Rattle.cas_reasons.specs.Inner.PlainInserts.{fits_named, all_fit, good_partition, has_good_partition, has_good_key, is_plain_insert}
use Rattle.cas_reasons.specs.RowFaults.{uses_twice, is_outside, gives_empty, gives_empty_key, is_row, lacks_key, has_bad_restriction}
use Rattle.cas_reasons.specs.RowReasons.{row_reasons}
use Rattle.cas_reasons.specs.Statements.{uses_of, timestamp_of, ttl_of, timestamp_in, ttl_in, key_terms_of, names_used}

-- ---- tests

both : (a b : Bool) → (a && b) ≡ true → (a ≡ true) × (b ≡ true)
both true b e = (refl, e)
both false b e = cc

is_false : (b : Bool) → not b ≡ true → b ≡ false
is_false true e = cc
is_false false e = refl

neither : (a b : Bool) → a ≡ false → b ≡ false → (a || b) ≡ false
neither a b e f = λ j. e j || f j

and_not : (a b : Bool) → b ≡ false → (a && b) ≡ false
and_not true b e = e
and_not false b e = refl

-- ---- what stands after USING

none_used : (uses : List Use) → (length uses == 0) ≡ true
    → (uses_twice uses ≡ false) × (is_outside LEAST_TIMESTAMP GREATEST_TIMESTAMP (timestamp_in uses) ≡ false) × (is_outside (pos 0) (pos TTL_LIMIT) (ttl_in uses) ≡ false)
unfolding uses_twice timestamp_in ttl_in is_outside
none_used [] e = (refl, refl, refl)
none_used (u ∷ us) e = let some : (length (u ∷ us) == 0) ≡ false = grind (arith, nat_tests) in let clash : true ≡ false = sym e ∙ some in cc

-- ---- names and terms

named : (t : Term) (o : Option Column) → option_map_or (λ c. term_fits c t) o false ≡ true → is_none o ≡ false
named t None e = cc
named t (Some c) e = refl

fitting : (t : Term) (o : Option Column) → option_map_or (λ c. term_fits c t) o false ≡ true → option_map_or (λ c. not (term_fits c t)) o false ≡ false
fitting t None e = cc
fitting t (Some c) e = ap not e

module _ (cs : List Column) where
  known : (n : List ℕ) (t : Term) → fits_named cs n t ≡ true → is_unknown cs n ≡ false
  unfolding is_unknown
  known n t e = named t (column_named cs n) e

  typed : (n : List ℕ) (t : Term) → fits_named cs n t ≡ true → is_of_another_type cs ((inserted (n, t)).0, changes (inserted (n, t)).1) ≡ false
  unfolding is_of_another_type mention_fits assigned_fits
  typed n t e = fitting t (column_named cs n) e

  all_known : (ns : List (List ℕ)) (ts : List Term) → all_fit cs ns ts ≡ true → list_any (is_unknown cs) ns ≡ false
  all_known [] ts e = refl
  all_known (n ∷ ns) [] e = cc
  all_known (n ∷ ns) (t ∷ ts) e = let parts = both (fits_named cs n t) (all_fit cs ns ts) e in
      neither (is_unknown cs n) (list_any (is_unknown cs) ns) (known n t parts.0) (all_known ns ts parts.1)

  all_typed : (ns : List (List ℕ)) (ts : List Term) → all_fit cs ns ts ≡ true
      → list_any (λ q. is_of_another_type cs (q.0, changes q.1)) (map inserted (zip ns ts)) ≡ false
  all_typed [] ts e = refl
  all_typed (n ∷ ns) [] e = refl
  all_typed (n ∷ ns) (t ∷ ts) e = let parts = both (fits_named cs n t) (all_fit cs ns ts) e in
      neither (is_of_another_type cs ((inserted (n, t)).0, changes (inserted (n, t)).1)) (list_any (λ q. is_of_another_type cs (q.0, changes q.1)) (map inserted (zip ns ts)))
      (typed n t parts.0) (all_typed ns ts parts.1)

  as_many : (ns : List (List ℕ)) (ts : List Term) → all_fit cs ns ts ≡ true → length ns ≡ length ts
  as_many [] [] e = refl
  as_many [] (t ∷ ts) e = cc
  as_many (n ∷ ns) [] e = cc
  as_many (n ∷ ns) (t ∷ ts) e =
      let same : length ns ≡ length ts = as_many ns ts (both (fits_named cs n t) (all_fit cs ns ts) e).1 in omega arith

counts : (m n : ℕ) → m ≡ n → (m == n) ≡ true
counts m n e = grind (arith, nat_tests)

-- ---- the partition key

with_bytes : (v : Option (List ℕ)) → has_bytes v ≡ true → (is_none v ≡ false) × (gives_no_bytes v ≡ false)
with_bytes None e = cc
with_bytes (Some []) e = cc
with_bytes (Some (b ∷ bs)) e = (refl, refl)

module _ (terms : TermOf) where
  sole_there : (cs : List Column) (c : Column) → sole_column cs ≡ Some c → is_missing terms c ≡ false → list_any (is_missing terms) cs ≡ false
  sole_there cs c e h = ap (list_any (is_missing terms)) (sole_is cs c e) ∙ neither (is_missing terms c) false h refl

  there : (o : Option Column) (cs : List Column) → sole_column (partition_columns cs) ≡ o → good_partition o cs terms ≡ true → lacks_partition terms cs ≡ false
  unfolding lacks_partition is_missing
  there None cs e h = is_false _ h
  there (Some c) cs e h = sole_there (partition_columns cs) c e (with_bytes (value_in terms c) h).0

  full : (o : Option Column) (cs : List Column) → good_partition o cs terms ≡ true → option_map_or (λ c. gives_no_bytes (value_in terms c)) o false ≡ false
  full None cs h = refl
  full (Some c) cs h = (with_bytes (value_in terms c) h).1

not_missing : (cs : List Column) (terms : TermOf) → has_good_partition cs terms ≡ true → lacks_partition terms cs ≡ false
not_missing cs terms h = there terms (sole_column (partition_columns cs)) cs refl h

not_empty : (cs : List Column) (terms : TermOf) → has_good_partition cs terms ≡ true
    → option_map_or (λ c. gives_no_bytes (value_in terms c)) (sole_column (partition_columns cs)) false ≡ false
not_empty cs terms h = full terms (sole_column (partition_columns cs)) cs h

-- ---- the reasons

skip : (b : Bool) (r : Refusal) (rs : List (Option Refusal)) → b ≡ false → first_of (then_some b r ∷ rs) ≡ first_of rs
skip true r rs e = cc
skip false r rs e = refl

no_reason_left : (r : Reasons) → r.no_table ≡ false → r.table_exists ≡ false → r.bad_definition ≡ false → r.no_column ≡ false → r.bad_option ≡ false
    → r.wrong_type ≡ false → r.empty_key ≡ false → r.missing_key ≡ false → r.bad_restriction ≡ false → r.ttl_too_large ≡ false
    → r.too_large ≡ None → r.too_many ≡ None → refusal_for r ≡ None
no_reason_left r a b c d e f g h i j k l =
    skip r.no_table _ _ a ∙ skip r.table_exists _ _ b ∙ skip r.bad_definition _ _ c ∙ skip r.no_column _ _ d ∙ skip r.bad_option _ _ e
    ∙ skip r.wrong_type _ _ f ∙ skip r.empty_key _ _ g ∙ skip r.missing_key _ _ h ∙ skip r.bad_restriction _ _ i ∙ skip r.ttl_too_large _ _ j
    ∙ (λ j. first_of (k j ∷ l j ∷ []))

module _ (t : TableSchema) (i : Insert) where
  well_said : all_fit t.columns i.columns i.values ≡ true → stands_twice i.columns ≡ false → uses_twice i.uses ≡ false
      → (changes_twice t.columns (changes_of (statement.Insert i)) || (has_other_count (statement.Insert i) || uses_twice (uses_of (statement.Insert i)))) ≡ false
  unfolding changes_of has_other_count uses_of
  well_said fit once uses =
      let counted : has_other_count (statement.Insert i) ≡ false = ap not (counts (length i.columns) (length i.values) (as_many t.columns i.columns i.values fit)) in
      neither _ _ (two_inserted t.columns i counted ∙ once) (neither _ _ counted uses)

  well_typed : all_fit t.columns i.columns i.values ≡ true → list_any (is_of_another_type t.columns) (terms_used (statement.Insert i)) ≡ false
  unfolding changes_of relations_of shown_by
  well_typed fit =
      any_term (is_of_another_type t.columns) (statement.Insert i) ∙ neither _ _ (all_typed t.columns i.columns i.values fit) refl

  keyed : lacks_partition (key_terms_of (statement.Insert i)) t.columns ≡ false → lacks_clustering (key_terms_of (statement.Insert i)) t.columns ≡ false
      → lacks_key t.columns (statement.Insert i) ≡ false
  unfolding lacks_key relations_of compares_key_with_null
  keyed partition clustering =
      neither _ _ partition (neither _ _ refl (and_not (is_row (extent_of t.columns (statement.Insert i))) _ clustering))

  pub plain_is_done : is_plain_insert t.columns i ≡ true → all_fit t.columns i.columns i.values ≡ true → refusal_for (row_reasons t None (statement.Insert i)) ≡ None
  unfolding row_reasons uses_of names_used has_bad_restriction gives_empty_key gives_empty key_terms_of
  plain_is_done e fit =
      let once = both _ _ e in
      let uses = both _ _ once.0 in
      let keys = both _ _ uses.1 in
      let used = none_used i.uses uses.0 in
      no_reason_left (row_reasons t None (statement.Insert i)) refl refl
      (well_said fit (is_false (stands_twice i.columns) once.1) used.0)
      (all_known t.columns i.columns i.values fit)
      used.1
      (well_typed fit)
      (not_empty t.columns (term_in_insert i.columns i.values) keys.0)
      (keyed (not_missing t.columns (term_in_insert i.columns i.values) keys.0) (is_false _ keys.1))
      refl used.2 refl refl
