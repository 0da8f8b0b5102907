-- What a SELECT is bound to is a query that may be put to its table.
use Rattle.std.proofs.Common.{◌≡◌, ℕ, ℤ, pos, negsuc, zero, suc, ◌+◌, ◌<◌, ◌≤◌, ◌≤ℤ◌, int_le, Bool, true, false, cond, not, ◌&&◌, List, [], ◌∷◌, ◌++◌, map, filter, length, Option, None, Some, is_none, option_map, unsigned_abs, refl, sym, ap, ◌∙◌, subst, arith}
use Rattle.std.specs.List.{AllByRecursion, list_any, find, enumerate_from, position_or_len, slice_get}
use Rattle.std.specs.BTreeMap.{insert_entry}
use Rattle.std.specs.Option.{option_map_or}
use Rattle.std.specs.Ordering.{match_ordering}
use Rattle.std.specs.declared.cmp.Ordering.TheVariants.{Less, Equal, Greater}
use Rattle.std.proofs.lemmas.Int.{ints}
use Rattle.std.proofs.lemmas.List.Elements.{All-from_recursion}
use Rattle.std.specs.Str.{bytes_eq}
use Rattle.cas_types.specs.Limits.{IsNarrow}
use Rattle.cas_types.specs.Schemas.{is_partition, is_clustering, is_static, is_regular, is_key, is_plain}
use Rattle.cas_types.specs.Values.{bytes_cmp}
use Rattle.cas_types.specs.declared.schema.Column.{Column}
use Rattle.cas_types.specs.declared.schema.Kind.{Kind}
use Rattle.cas_types.specs.declared.schema.TableSchema.{TableSchema}
use Rattle.cas_atoms.specs.Fits.{FitsPick, FitsLimit, FitsQuery}
use Rattle.cas_atoms.specs.declared.query.Pick.TheVariants as asked
use Rattle.cas_effects.specs.Refusals.{refusal_for}
use Rattle.cql_parse.specs.declared.syntax.Pick.{Pick}
use Rattle.cql_parse.specs.declared.syntax.Pick.TheVariants as pick
use Rattle.cql_parse.specs.declared.syntax.Picks.{Picks}
use Rattle.cql_parse.specs.declared.syntax.Picks.TheVariants as picks
use Rattle.cql_parse.specs.declared.syntax.Select.{Select}
use Rattle.cql_parse.specs.declared.syntax.Statement.TheVariants as statement
use Rattle.cas_terms.specs.Columns.{column_named, is_unknown}
use Rattle.cas_keys.specs.KeyTerms.{term_in_where, partition_key}
use Rattle.cas_where.specs.Slices.{slice_of}
use Rattle.cas_where.proofs.Fitting.{IsShort, front_of, rest_of, slice_fits}
use Rattle.cas_define.specs.IsTable.{IsTable}
use Rattle.cas_mentions.specs.ColumnFaults.{has_writetime, pick_fits, mention_fits, is_of_another_type}
use Rattle.cas_reasons.specs.RowFaults.{is_outside, reads_outside_limits, has_bad_restriction}
use Rattle.cas_reasons.specs.RowReasons.{row_reasons}
use Rattle.cas_bind.specs.Selects.{numbered, by_name, named_numbers, key_numbers, all_numbers, number_named, asked_of, asked_by, bound_select, read_too_large}
use Rattle.cas_mentions.specs.Mentions.{shows, picked_name, picks_in, shown_by, relations_of}
use Rattle.cas_reasons.specs.Statements.{key_terms_of}
use Rattle.cas_types.specs.declared.limits.TheConstants.{ROW_LIMIT}
use Rattle.cas_writes.proofs.FitChanges.{neither, nor, joined, all_short}
use Rattle.cas_writes.proofs.FitWrites.{Clear, clear, both_true, le_from, key_of_it}
use Rattle.cas_mentions.proofs.Used.{any_term}
use Rattle.cas_reasons.proofs.Used.{any_in_select}

-- ---- the numbers of `*`

module _ (n : ℕ) where
  numbers_below : (i : ℕ) (cs : List Column) → i + length cs ≤ n → AllByRecursion (λ p. p.0 < n) (enumerate_from i cs)
  numbers_below i [] few = tt
  numbers_below i (c ∷ cs) few = (omega arith, numbers_below (i + 1) cs (omega arith))

  kept : (test : ℕ × Column → Bool) (ps : List (ℕ × Column)) → AllByRecursion (λ p. p.0 < n) ps → AllByRecursion (λ p. p.0 < n) (filter test ps)
  kept test [] all = tt
  kept test (p ∷ ps) all = elim (test p) as (λ b. AllByRecursion (λ p. p.0 < n) (cond b (p ∷ filter test ps) (filter test ps))) [ true ↦ (all.0, kept test ps all.1) | false ↦ kept test ps all.1 ]

  firsts : (ps : List (ℕ × Column)) → AllByRecursion (λ p. p.0 < n) ps → AllByRecursion (λ k. k < n) (map (λ p. p.0) ps)
  firsts [] all = tt
  firsts (p ∷ ps) all = (all.0, firsts ps all.1)

  put : (es : List (List ℕ × ℕ)) (name : List ℕ) (k : ℕ) → AllByRecursion (λ e. e.1 < n) es → k < n → AllByRecursion (λ e. e.1 < n) (insert_entry bytes_cmp es name k)
  put [] name k all below = (below, tt)
  put (e ∷ es) name k all below =
      elim (bytes_cmp name e.0) as (λ r. AllByRecursion (λ e. e.1 < n) (match_ordering r ((name, k) ∷ e ∷ es) ((e.0, k) ∷ es) (e ∷ insert_entry bytes_cmp es name k))) [
        | Less ↦ (below, all)
        | Equal ↦ (below, all.1)
        | Greater ↦ (all.0, put es name k all.1 below)
      ]

  named : (ps : List (ℕ × Column)) → AllByRecursion (λ p. p.0 < n) ps → AllByRecursion (λ e. e.1 < n) (by_name ps)
  named [] all = tt
  named (p ∷ ps) all = put (by_name ps) p.1.name p.0 (named ps all.1) all.0

  seconds : (es : List (List ℕ × ℕ)) → AllByRecursion (λ e. e.1 < n) es → AllByRecursion (λ k. k < n) (map (λ e. e.1) es)
  seconds [] all = tt
  seconds (e ∷ es) all = (all.0, seconds es all.1)

of_kind : (test : Kind → Bool) (cs : List Column) → AllByRecursion (λ p. p.0 < length cs) (numbered test cs)
of_kind test cs = kept (length cs) (λ p. test p.1.kind) (enumerate_from 0 cs) (numbers_below (length cs) 0 cs (omega arith))

by_names : (test : Kind → Bool) (cs : List Column) → AllByRecursion (λ k. k < length cs) (named_numbers test cs)
unfolding named_numbers
by_names test cs = seconds (length cs) (by_name (numbered test cs)) (named (length cs) (numbered test cs) (of_kind test cs))

all_below : (cs : List Column) → AllByRecursion (λ k. k < length cs) (all_numbers cs)
unfolding all_numbers key_numbers
all_below cs =
    joined (λ k. k < length cs) _ _
    (joined (λ k. k < length cs) _ _ (firsts (length cs) (numbered is_partition cs) (of_kind is_partition cs)) (firsts (length cs) (numbered is_clustering cs) (of_kind is_clustering cs)))
    (joined (λ k. k < length cs) _ _ (by_names is_static cs) (by_names is_regular cs))

values_fit : (cs : List Column) (ks : List ℕ) → AllByRecursion (λ k. k < length cs) ks → AllByRecursion (FitsPick cs) (map (λ k. asked.Value k) ks)
values_fit cs [] all = tt
values_fit cs (k ∷ ks) all = (all.0, values_fit cs ks all.1)

-- ---- what is named

module _ (n : List ℕ) where
  at_number : (cs : List Column) (c : Column) → column_named cs n ≡ Some c → slice_get cs (number_named cs n) ≡ Some c
  unfolding column_named number_named
  at_number [] c e = cc
  at_number (d ∷ cs) c e =
      elim (bytes_eq d.name n) as (λ b. cond b (Some d) (find (λ c. bytes_eq c.name n) cs) ≡ Some c → slice_get (d ∷ cs) (cond (not b) (1 + position_or_len (λ c. bytes_eq c.name n) cs) 0) ≡ Some c) [
        | true ↦ λ f. f
        | false ↦ λ f. subst (λ k. slice_get (d ∷ cs) k ≡ Some c) (let next : suc (position_or_len (λ c. bytes_eq c.name n) cs) ≡ 1 + position_or_len (λ c. bytes_eq c.name n) cs = omega arith in next) (at_number cs c f)
      ] e

  below : (cs : List Column) (c : Column) (k : ℕ) → slice_get cs k ≡ Some c → k < length cs
  below [] c k e = cc
  below (d ∷ cs) c zero e = omega arith
  below (d ∷ cs) c (suc k) e = let less : k < length cs = below cs c k e in omega arith

module _ (cs : List Column) where
  as_it_is : (b : Bool) → not b ≡ false → b ≡ true
  as_it_is true e = refl
  as_it_is false e = cc

  not_not : (b : Bool) → not b ≡ true → b ≡ false
  not_not true e = cc
  not_not false e = refl

  of_values : (c : Column) → has_writetime c ≡ true → (is_plain c.shape ≡ true) × (is_key c.kind ≡ false)
  of_values c e = (first _ _ e, not_not _ (second _ _ e))
    where
      first : (a b : Bool) → (a && b) ≡ true → a ≡ true
      first true b f = refl
      first false b f = cc

      second : (a b : Bool) → (a && b) ≡ true → b ≡ true
      second true b f = f
      second false b f = cc

  one_pick : (p : Pick) (c : Column) → column_named cs (picked_name p) ≡ Some c → pick_fits c p ≡ true → FitsPick cs (asked_of cs p)
  unfolding picked_name asked_of pick_fits
  one_pick (pick.Value n) c e fits = below n cs c (number_named cs n) (at_number n cs c e)
  one_pick (pick.WriteTime n) c e fits = let its : (is_plain c.shape ≡ true) × (is_key c.kind ≡ false) = of_values c fits in (c, at_number n cs c e, its.0, its.1)
  one_pick (pick.Ttl n) c e fits = let its : (is_plain c.shape ≡ true) × (is_key c.kind ≡ false) = of_values c fits in (c, at_number n cs c e, its.0, its.1)

  known_pick : (p : Pick) → is_unknown cs (picked_name p) ≡ false → is_of_another_type cs (picked_name p, shows p) ≡ false → FitsPick cs (asked_of cs p)
  unfolding is_unknown is_of_another_type mention_fits
  known_pick p known right = by_column (column_named cs (picked_name p)) refl
    where
      by_column : (o : Option Column) → column_named cs (picked_name p) ≡ o → FitsPick cs (asked_of cs p)
      by_column None e = absurd (differ (ap is_none (sym e) ∙ known))
        where
          differ : true ≡ false → ⊥
          differ f = cc
      by_column (Some c) e = one_pick p c e (as_it_is _ (ap (λ o. option_map_or (λ c. not (pick_fits c p)) o false) (sym e) ∙ right))

  picks_fit : (ps : List Pick) → list_any (λ k. is_unknown cs (picked_name k)) ps ≡ false → list_any (λ k. is_of_another_type cs (picked_name k, shows k)) ps ≡ false
      → AllByRecursion (FitsPick cs) (map (asked_of cs) ps)
  picks_fit [] known right = tt
  picks_fit (p ∷ ps) known right = (known_pick p (neither _ _ known) (neither _ _ right), picks_fit ps (nor _ _ known) (nor _ _ right))

  asked_fits : (xs : Picks) → list_any (λ k. is_unknown cs (picked_name k)) (picks_in xs) ≡ false → list_any (λ k. is_of_another_type cs (picked_name k, shows k)) (picks_in xs) ≡ false
      → AllByRecursion (FitsPick cs) (asked_by cs xs)
  unfolding asked_by picks_in
  asked_fits picks.All known right = values_fit cs (all_numbers cs) (all_below cs)
  asked_fits (picks.These ps) known right = picks_fit ps known right

-- ---- a LIMIT

limit_fits : (o : Option ℤ) → is_outside (pos 1) (pos ROW_LIMIT) o ≡ false → FitsLimit (option_map unsigned_abs o)
unfolding is_outside
limit_fits None e = tt
limit_fits (Some (pos n)) e =
    let both : (int_le (pos 1) (pos n) ≡ true) × (int_le (pos n) (pos ROW_LIMIT) ≡ true) = both_true _ _ e in
    let low : pos 1 ≤ℤ pos n = le_from _ _ both.0 in let high : pos n ≤ℤ pos ROW_LIMIT = le_from _ _ both.1 in (omega (arith, ints), omega (arith, ints))
limit_fits (Some (negsuc n)) e = cc

-- ---- the query

module _ (t : TableSchema) (narrow : IsNarrow t.columns) (is : IsTable t) where
  pub read_fits : (shards : ℕ) (s : Select) → refusal_for (row_reasons t (read_too_large (bound_select shards t s)) (statement.Select s)) ≡ None → FitsQuery t (bound_select shards t s).query
  unfolding bound_select row_reasons read_too_large key_terms_of relations_of shown_by has_bad_restriction reads_outside_limits
  read_fits shards s e =
      let c : Clear (row_reasons t (read_too_large (bound_select shards t s)) (statement.Select s)) = clear (row_reasons t (read_too_large (bound_select shards t s)) (statement.Select s)) e in
      let short : AllByRecursion IsShort (partition_key (term_in_where s.relations) t.columns ∷ ((slice_of t.columns s.relations).lo.prefix ++ (slice_of t.columns s.relations).hi.prefix)) = all_short _ c.too_large in
      let cuts = slice_fits t.columns narrow is.keyed s.relations
      (front_of IsShort (slice_of t.columns s.relations).lo.prefix (slice_of t.columns s.relations).hi.prefix short.1) (rest_of IsShort (slice_of t.columns s.relations).lo.prefix _ short.1) in
      record {
        of_table = refl;
        columns = refl;
        key = key_of_it t narrow is (statement.Select s) c.missing_key c.empty_key short.0;
        low = cuts.0;
        high = cuts.1;
        limit = limit_fits s.limit (neither _ _ (nor _ _ (nor _ _ c.bad_restriction)));
        picks = All-from_recursion (FitsPick t.columns) _
            (asked_fits t.columns s.picks (neither _ _ (sym (any_in_select (is_unknown t.columns) s) ∙ c.no_column))
            (nor _ _ (nor _ _ (sym (any_term (is_of_another_type t.columns) (statement.Select s)) ∙ c.wrong_type))));
      }
