-- What an INSERT, UPDATE or DELETE is bound to is what its table can take.
use Rattle.std.proofs.Common.{◌≡◌, ℕ, ℤ, pos, negsuc, ◌≤◌, ◌≤ℤ◌, int_le, Bool, true, false, cond, not, ◌&&◌, ◌||◌, if◌then◌else◌, List, [], ◌∷◌, ◌++◌, map, Option, None, Some, is_some, is_none, unwrap_or, option_map, unsigned_abs, IfSome, refl, sym, ap, ◌∙◌, subst, arith}
use Rattle.std.specs.Bool.{then_some}
use Rattle.std.specs.List.{AllByRecursion, list_any, list_all, find, flat_map, zip}
use Rattle.std.specs.Option.{option_map_or}
use Rattle.std.specs.Str.{bytes_eq}
use Rattle.std.proofs.lemmas.Int.{ints}
use Rattle.std.proofs.lemmas.List.Elements.{All-from_recursion, recursion_from_All}
use Rattle.std.proofs.lemmas.Grind.{flat_map-append}
use Rattle.std.proofs.lemmas.Slice.Eq.{bytes_eq-Decides}
use Rattle.std.proofs.lemmas.Nat.{mod_below}
use Rattle.cas_types.specs.Limits.{IsNarrow, IsShardCount}
use Rattle.cas_types.specs.Schemas.{is_partition, is_clustering, is_key, is_static, is_plain}
use Rattle.cas_types.specs.declared.limits.TheConstants.{LEAST_TIMESTAMP, GREATEST_TIMESTAMP, TTL_LIMIT}
use Rattle.cas_types.specs.declared.schema.Column.{Column}
use Rattle.cas_types.specs.declared.schema.Kind.{Kind}
use Rattle.cas_types.specs.declared.schema.Kind.TheVariants.{Partition, Ascending, Descending, Static, Regular}
use Rattle.cas_types.specs.declared.schema.Shape.{Shape}
use Rattle.cas_types.specs.declared.schema.Shape.TheVariants as shape
use Rattle.cas_types.specs.declared.schema.TableSchema.{TableSchema}
use Rattle.cas_atoms.specs.Fits.{FitsKey}
use Rattle.cas_effects.specs.FitsBound.{FitsEffect, IsUsable, FitsBound}
use Rattle.cas_effects.specs.Refusals.{first_of, refusal_for}
use Rattle.cas_effects.specs.TooLarge.{limited_values, write_too_large}
use Rattle.cas_effects.specs.declared.effect.Effect.{Effect}
use Rattle.cas_effects.specs.declared.effect.Effect.TheVariants as effect
use Rattle.cas_effects.specs.declared.reasons.Reasons.{Reasons}
use Rattle.cas_effects.specs.declared.refusal.Refusal.{Refusal}
use Rattle.cql_parse.specs.declared.term.Literal.{Literal}
use Rattle.cql_parse.specs.declared.term.Term.{Term}
use Rattle.cql_parse.specs.declared.term.Term.TheVariants as term
use Rattle.cql_parse.specs.declared.syntax.Assignment.{Assignment}
use Rattle.cql_parse.specs.declared.syntax.Relation.{Relation}
use Rattle.cql_parse.specs.declared.syntax.Statement.{Statement}
use Rattle.cql_parse.specs.declared.syntax.Statement.TheVariants as statement
use Rattle.cql_parse.specs.declared.syntax.Target.{Target}
use Rattle.cas_terms.specs.Columns.{column_named, names_static, names_partition, names_key, clustering_columns}
use Rattle.cas_terms.specs.Constants.{gives_no_bytes}
use Rattle.cas_terms.specs.Terms.{term_value, is_literal_of, term_fits}
use Rattle.cas_keys.specs.KeyTerms.{TermOf, term_in_where, value_in, is_missing, prefix_values, partition_key, is_equal}
use Rattle.cas_keys.specs.Keys.{is_null, compares_key_with_null, lacks_clustering}
use Rattle.cas_where.specs.Slices.{slice_of}
use Rattle.cas_where.specs.Where.{is_fixed, is_clustering_free, is_clustering_fixed}
use Rattle.cas_where.proofs.Fitting.{IsShort, front_of, rest_of, row_fits, slice_fits, key_fits, not_empty}
use Rattle.cas_where.proofs.SliceLaws.{given, fixed_column}
use Rattle.cas_writes.specs.Changes.{change_effects, clustered_row, deletion_effect, deletion_effects, live_effect, row_effects, effects_of, time_to_live, bound_change}
use Rattle.cas_reasons.specs.Extents.{inserts_static, static_or_row, deletes_in, extent_of}
use Rattle.cas_define.specs.IsTable.{IsTable}
use Rattle.cas_define.proofs.Tables.{each_named}
use Rattle.cas_mentions.specs.ColumnFaults.{mention_fits, is_of_another_type}
use Rattle.cas_reasons.specs.RowFaults.{is_outside, gives_empty, gives_empty_key, is_row, lacks_key}
use Rattle.cas_reasons.specs.RowReasons.{row_reasons}
use Rattle.cas_mentions.specs.Mentions.{Change, assigns, deletes, changes, compares, inserted, relations_of, changes_of, terms_used}
use Rattle.cas_reasons.specs.Statements.{uses_of, timestamp_in, ttl_in, key_terms_of}
use Rattle.cas_writes.proofs.FitChanges.{neither, nor, joined, all_short, is_there, IsPlaced, all_changes}
use Rattle.cas_mentions.proofs.Used.{any_term}

-- ---- what isn't told of a statement

pub record Clear (r : Reasons) : Type 0 where
  pub bad_definition : r.bad_definition ≡ false
  pub no_column : r.no_column ≡ false
  pub bad_option : r.bad_option ≡ false
  pub wrong_type : r.wrong_type ≡ false
  pub empty_key : r.empty_key ≡ false
  pub missing_key : r.missing_key ≡ false
  pub bad_restriction : r.bad_restriction ≡ false
  pub ttl_too_large : r.ttl_too_large ≡ false
  pub too_large : r.too_large ≡ None

first_none : (b : Bool) (x : Refusal) (rs : List (Option Refusal)) → first_of (then_some b x ∷ rs) ≡ None → (b ≡ false) × (first_of rs ≡ None)
first_none true x rs e = cc
first_none false x rs e = (refl, e)

last_none : (o p : Option Refusal) → first_of (o ∷ p ∷ []) ≡ None → o ≡ None
last_none None p e = refl
last_none (Some r) p e = cc

pub clear : (r : Reasons) → refusal_for r ≡ None → Clear r
clear r e =
    let a = first_none r.no_table _ _ e in
    let b = first_none r.table_exists _ _ a.1 in
    let c = first_none r.bad_definition _ _ b.1 in
    let d = first_none r.no_column _ _ c.1 in
    let f = first_none r.bad_option _ _ d.1 in
    let g = first_none r.wrong_type _ _ f.1 in
    let h = first_none r.empty_key _ _ g.1 in
    let i = first_none r.missing_key _ _ h.1 in
    let j = first_none r.bad_restriction _ _ i.1 in
    let k = first_none r.ttl_too_large _ _ j.1 in
    record {
      bad_definition = c.0;
      no_column = d.0;
      bad_option = f.0;
      wrong_type = g.0;
      empty_key = h.0;
      missing_key = i.0;
      bad_restriction = j.0;
      ttl_too_large = k.0;
      too_large = last_none r.too_large r.too_many k.1;
    }

-- ---- numbers

pub both_true : (a b : Bool) → not (a && b) ≡ false → (a ≡ true) × (b ≡ true)
both_true true true e = (refl, refl)
both_true true false e = cc
both_true false b e = cc

pub le_from : (a b : ℤ) → int_le a b ≡ true → a ≤ℤ b
le_from a b e = grind (arith, ints)

usable : (o : Option ℤ) → is_outside LEAST_TIMESTAMP GREATEST_TIMESTAMP o ≡ false → IfSome o IsUsable
unfolding is_outside
usable None e = tt
usable (Some n) e =
    let both : (int_le LEAST_TIMESTAMP n ≡ true) × (int_le n GREATEST_TIMESTAMP ≡ true) = both_true _ _ e in (le_from _ _ both.0, le_from _ _ both.1)

short_life : (n : ℤ) → int_le n (pos TTL_LIMIT) ≡ true → int_le (pos 0) n ≡ true → unsigned_abs n ≤ TTL_LIMIT
short_life (pos n) high low = let most : pos n ≤ℤ pos TTL_LIMIT = le_from _ _ high in omega (arith, ints)
short_life (negsuc n) high low = cc

lives : (o : Option ℤ) (default : ℕ) → is_outside (pos 0) (pos TTL_LIMIT) o ≡ false → default ≤ TTL_LIMIT → unwrap_or (option_map unsigned_abs o) default ≤ TTL_LIMIT
unfolding is_outside
lives None default e few = few
lives (Some n) default e few = let both : (int_le (pos 0) n ≡ true) × (int_le n (pos TTL_LIMIT) ≡ true) = both_true _ _ e in short_life n both.1 both.0

life_fits : (t : TableSchema) (s : Statement) → is_outside (pos 0) (pos TTL_LIMIT) (ttl_in (uses_of s)) ≡ false → t.options.default_time_to_live ≤ TTL_LIMIT → time_to_live t s ≤ TTL_LIMIT
unfolding time_to_live
life_fits t (statement.Delete d) e few = omega arith
life_fits t (statement.Insert i) e few = lives _ _ e few
life_fits t (statement.Update u) e few = lives _ _ e few
life_fits t (statement.Create c) e few = lives _ _ e few
life_fits t (statement.Alter a) e few = lives _ _ e few
life_fits t (statement.Select s) e few = lives _ _ e few

-- ---- a table

module _ (t : TableSchema) (narrow : IsNarrow t.columns) (is : IsTable t) where
  abbrev ks : List Column
  ks = clustering_columns t.columns

  -- ---- each column of a WHERE that names a row is given a value

  kept_of : (P : Column → Type 0) (cs : List Column) → AllByRecursion P cs → AllByRecursion (λ c. P c × (is_clustering c.kind ≡ true)) (clustering_columns cs)
  kept_of P [] all = tt
  kept_of P (c ∷ cs) all =
      elim (is_clustering c.kind) as (λ b. is_clustering c.kind ≡ b → AllByRecursion (λ c. P c × (is_clustering c.kind ≡ true)) (cond b (c ∷ clustering_columns cs) (clustering_columns cs))) [
        | true ↦ λ e. ((all.0, e), kept_of P cs all.1)
        | false ↦ λ e. kept_of P cs all.1
      ] refl

  paired : (P Q : Column → Type 0) (cs : List Column) → AllByRecursion P cs → AllByRecursion Q cs → AllByRecursion (λ c. P c × Q c) cs
  paired P Q [] p q = tt
  paired P Q (c ∷ cs) p q = ((p.0, q.0), paired P Q cs p.1 q.1)

  key_of_clustering : (k : Kind) → is_clustering k ≡ true → is_key k ≡ true
  key_of_clustering Partition e = refl
  key_of_clustering Ascending e = refl
  key_of_clustering Descending e = refl
  key_of_clustering Static e = cc
  key_of_clustering Regular e = cc

  one_shape : (s : Shape) → is_plain s ≡ true → s ≡ shape.One
  one_shape shape.One e = refl
  one_shape shape.Set e = cc
  one_shape shape.List e = cc
  one_shape shape.Map e = cc

  no_literal : (c : Column) (s : Shape) (x : Literal) → s ≡ shape.One → is_literal_of s c x ≡ true → ⊥
  unfolding is_literal_of
  no_literal c shape.One x e f = cc
  no_literal c shape.Set x e f = cc
  no_literal c shape.List x e f = cc
  no_literal c shape.Map x e f = cc

  second : (a b : Bool) → (a && b) ≡ true → b ≡ true
  second true b e = e
  second false b e = cc

  valued : (c : Column) (x : Term) → is_plain c.shape ≡ true → term_fits c x ≡ true → is_null x ≡ false → is_some (term_value c.tag x) ≡ true
  unfolding term_fits is_null term_value
  valued c term.Null plain fits some = cc
  valued c (term.Constant k) plain fits some = second _ _ fits
  valued c (term.Literal x) plain fits some = absurd (no_literal c c.shape x (one_shape c.shape plain) fits)

  as_it_is : (b : Bool) → not b ≡ false → b ≡ true
  as_it_is true e = refl
  as_it_is false e = cc

  module _ (rs : List Relation) where
    abbrev IsRight : Relation → Type 0
    IsRight r = (is_of_another_type t.columns (r.column, compares r.value) ≡ false) × ((names_key t.columns r.column && is_null r.value) ≡ false)

    rights : (xs : List Relation) → list_any (λ r. is_of_another_type t.columns (r.column, compares r.value)) xs ≡ false
        → list_any (λ r. names_key t.columns r.column && is_null r.value) xs ≡ false → AllByRecursion IsRight xs
    rights [] types nulls = tt
    rights (r ∷ xs) types nulls = ((neither _ _ types, neither _ _ nulls), rights xs (nor _ _ types) (nor _ _ nulls))

    one_given : (c : Column) (r : Relation) → column_named t.columns c.name ≡ Some c → is_plain c.shape ≡ true → is_key c.kind ≡ true → IsRight r → given rs c r ≡ true
    unfolding is_of_another_type names_key mention_fits
    one_given c r here plain key right =
        elim (bytes_eq r.column c.name) as (λ b. bytes_eq r.column c.name ≡ b → (not b || is_some (term_value c.tag r.value)) ≡ true) [
          | true ↦ λ e.
              let same : r.column ≡ c.name = (bytes_eq-Decides r.column c.name).0 e in
              let its : column_named t.columns r.column ≡ Some c = ap (column_named t.columns) same ∙ here in
              valued c r.value plain
              (as_it_is (term_fits c r.value) (ap (λ o. option_map_or (λ c. not (term_fits c r.value)) o false) (sym its) ∙ right.0))
              (ap (λ b. b && is_null r.value) (sym key) ∙ ap (λ o. option_map_or (λ c. is_key c.kind) o false && is_null r.value) (sym its) ∙ right.1)
          | false ↦ λ e. refl
        ] refl

    each_given : (c : Column) → column_named t.columns c.name ≡ Some c → is_plain c.shape ≡ true → is_key c.kind ≡ true → (xs : List Relation) → AllByRecursion IsRight xs → list_all (given rs c) xs ≡ true
    each_given c here plain key [] all = refl
    each_given c here plain key (r ∷ xs) all = λ j. one_given c r here plain key all.0 j && each_given c here plain key xs all.1 j

    abbrev IsGood : Column → Type 0
    IsGood c = (column_named t.columns c.name ≡ Some c) × (is_key c.kind ≡ true → is_plain c.shape ≡ true)

    none_missing : (cs : List Column) → AllByRecursion (λ c. IsGood c × (is_clustering c.kind ≡ true)) cs → AllByRecursion IsRight rs → list_all (is_fixed rs) cs ≡ true
        → list_any (is_missing (term_in_where rs)) cs ≡ false
    unfolding is_missing term_in_where
    none_missing [] good right fixed = refl
    none_missing (c ∷ cs) good right fixed =
        let key : is_key c.kind ≡ true = key_of_clustering c.kind good.0.1 in
        let its = fixed_column rs c [] (find (λ r. bytes_eq r.column c.name && is_equal r.operator) rs)
        (each_given c good.0.0.0 (good.0.0.1 key) key rs right) (first _ _ fixed) refl in
        (λ j. is_none (its.1 j) || none_missing cs good.1 right (second _ _ fixed) j)
      where
        first : (a b : Bool) → (a && b) ≡ true → a ≡ true
        first true b e = refl
        first false b e = cc

    fixed_row : AllByRecursion IsRight rs → is_clustering_fixed rs t.columns ≡ true → list_any (is_missing (term_in_where rs)) ks ≡ false
    unfolding is_clustering_fixed
    fixed_row right fixed =
        none_missing ks (kept_of IsGood t.columns
        (paired (λ c. column_named t.columns c.name ≡ Some c) (λ c. is_key c.kind ≡ true → is_plain c.shape ≡ true) t.columns
        (each_named t.columns is.once)
        (recursion_from_All (λ c. is_key c.kind ≡ true → is_plain c.shape ≡ true) t.columns is.plain))) right fixed

    -- ---- what a DELETE of rows deletes

    deleted_fits : AllByRecursion IsRight rs → AllByRecursion IsShort (limited_values (deletion_effect t.columns rs)) → FitsEffect t.columns (deletion_effect t.columns rs)
    unfolding deletion_effect limited_values
    deleted_fits right short =
        elim (is_clustering_free rs t.columns) as (λ b. AllByRecursion IsShort (limited_values (if b then effect.Partition else rows)) → FitsEffect t.columns (if b then effect.Partition else rows)) [
          | true ↦ λ s. tt
          | false ↦ elim (is_clustering_fixed rs t.columns) as (λ b. is_clustering_fixed rs t.columns ≡ b
              → AllByRecursion IsShort (limited_values (if b then effect.Row (clustered_row (term_in_where rs) t.columns) else effect.Range (slice_of t.columns rs).lo (slice_of t.columns rs).hi))
              → FitsEffect t.columns (if b then effect.Row (clustered_row (term_in_where rs) t.columns) else effect.Range (slice_of t.columns rs).lo (slice_of t.columns rs).hi)) [
                | true ↦ λ e s. row_fits t.columns narrow is.keyed (term_in_where rs) (fixed_row right e) s
                | false ↦ λ e s. slice_fits t.columns narrow is.keyed rs (front_of IsShort (slice_of t.columns rs).lo.prefix (slice_of t.columns rs).hi.prefix s) (rest_of IsShort (slice_of t.columns rs).lo.prefix _ s)
              ] refl
        ] short
      where
        rows : Effect
        rows = if is_clustering_fixed rs t.columns then effect.Row (clustered_row (term_in_where rs) t.columns) else effect.Range (slice_of t.columns rs).lo (slice_of t.columns rs).hi

  -- ---- where the changes are made

  module _ (terms : TermOf) where
    abbrev Placed : List (List ℕ × Change) → Type 0
    Placed ps = AllByRecursion (IsPlaced t.columns (clustered_row terms t.columns)) ps

    full : list_any (is_missing terms) ks ≡ false → (ps : List (List ℕ × Change)) → Placed ps
    full none [] = tt
    full none (p ∷ ps) = ((λ l e k s short. row_fits t.columns narrow is.keyed terms none short), full none ps)

    static_placed : (p : List ℕ × Change) → names_static t.columns p.0 ≡ true → IsPlaced t.columns (clustered_row terms t.columns) p
    unfolding names_static
    static_placed p static = λ l e k s short.
        let found : column_named t.columns p.0 ≡ Some l.1 = (is_there t.columns p.0 l e).1 in
        let its : is_static l.1.kind ≡ true = ap (λ o. option_map_or (λ c. is_static c.kind) o false) (sym found) ∙ static in absurd (differ (sym s ∙ its))
      where
        differ : false ≡ true → ⊥
        differ e = cc

    partition_placed : (p : List ℕ × Change) → names_partition t.columns p.0 ≡ true → IsPlaced t.columns (clustered_row terms t.columns) p
    unfolding names_partition
    partition_placed p part = λ l e k s short.
        let found : column_named t.columns p.0 ≡ Some l.1 = (is_there t.columns p.0 l e).1 in
        let its : is_partition l.1.kind ≡ true = ap (λ o. option_map_or (λ c. is_partition c.kind) o false) (sym found) ∙ part in absurd (no_key l.1.kind its k)
      where
        no_key : (k : Kind) → is_partition k ≡ true → is_key k ≡ false → ⊥
        no_key Partition e n = cc
        no_key Ascending e n = cc
        no_key Descending e n = cc
        no_key Static e n = cc
        no_key Regular e n = cc

    inserted_static : (ns : List (List ℕ)) (ts : List Term) → list_all (λ n. if names_partition t.columns n then true else names_static t.columns n) ns ≡ true → Placed (map inserted (zip ns ts))
    inserted_static [] ts all = tt
    inserted_static (n ∷ ns) [] all = tt
    inserted_static (n ∷ ns) (x ∷ ts) all = (
      elim (names_partition t.columns n) as (λ b. names_partition t.columns n ≡ b → (if b then true else names_static t.columns n) ≡ true → IsPlaced t.columns (clustered_row terms t.columns) (inserted (n, x))) [
        | true ↦ λ e s. partition_placed (inserted (n, x)) e
        | false ↦ λ e s. static_placed (inserted (n, x)) s
      ] refl (first _ _ all),
      inserted_static ns ts (second _ _ all),
    )
      where
        first : (a b : Bool) → (a && b) ≡ true → a ≡ true
        first true b e = refl
        first false b e = cc

    assigned_static : (xs : List Assignment) → list_all (λ a. names_static t.columns a.column) xs ≡ true → Placed (map (λ a. (a.column, assigns a.value)) xs)
    assigned_static [] all = tt
    assigned_static (a ∷ xs) all = (static_placed (a.column, assigns a.value) (first _ _ all), assigned_static xs (second _ _ all))
      where
        first : (a b : Bool) → (a && b) ≡ true → a ≡ true
        first true b e = refl
        first false b e = cc

    pub deleted_static : (xs : List Target) → list_all (λ x. names_static t.columns x.column) xs ≡ true → Placed (map (λ x. (x.column, deletes x.key)) xs)
    deleted_static [] all = tt
    deleted_static (x ∷ xs) all = (static_placed (x.column, deletes x.key) (first _ _ all), deleted_static xs (second _ _ all))
      where
        first : (a b : Bool) → (a && b) ≡ true → a ≡ true
        first true b e = refl
        first false b e = cc

  -- ---- a statement

  module _ (s : Statement) (missing : lacks_key t.columns s ≡ false) where
    row_full : is_row (extent_of t.columns s) ≡ true → list_any (is_missing (key_terms_of s)) ks ≡ false
    unfolding lacks_key lacks_clustering
    row_full one = ap (λ b. b && list_any (is_missing (key_terms_of s)) ks) (sym one) ∙ nor _ _ (nor _ _ missing)

  placed_where : (s : Statement) → lacks_key t.columns s ≡ false → Placed (key_terms_of s) (changes_of s)
  unfolding changes_of extent_of inserts_static
  placed_where (statement.Insert i) missing =
      elim (inserts_static t.columns i.columns) as (λ b. inserts_static t.columns i.columns ≡ b → Placed (key_terms_of (statement.Insert i)) (map inserted (zip i.columns i.values))) [
        | true ↦ λ e. inserted_static (key_terms_of (statement.Insert i)) i.columns i.values (second _ _ e)
        | false ↦ λ e. full (key_terms_of (statement.Insert i)) (row_full (statement.Insert i) missing (ap (λ b. is_row (static_or_row b)) e)) _
      ] refl
  placed_where (statement.Update u) missing =
      elim (list_all (λ a. names_static t.columns a.column) u.assignments) as (λ b. list_all (λ a. names_static t.columns a.column) u.assignments ≡ b
      → Placed (key_terms_of (statement.Update u)) (map (λ a. (a.column, assigns a.value)) u.assignments)) [
        | true ↦ λ e. assigned_static (key_terms_of (statement.Update u)) u.assignments e
        | false ↦ λ e. full (key_terms_of (statement.Update u)) (row_full (statement.Update u) missing (ap (λ b. is_row (static_or_row b)) e)) _
      ] refl
  placed_where (statement.Delete d) missing = by_targets d.targets refl
    where
      by_targets : (xs : List Target) → d.targets ≡ xs → Placed (key_terms_of (statement.Delete d)) (map (λ x. (x.column, deletes x.key)) xs)
      by_targets [] e = tt
      by_targets (x ∷ xs) e =
          elim (list_all (λ x. names_static t.columns x.column) (x ∷ xs)) as (λ b. list_all (λ x. names_static t.columns x.column) (x ∷ xs) ≡ b
          → Placed (key_terms_of (statement.Delete d)) (map (λ x. (x.column, deletes x.key)) (x ∷ xs))) [
            | true ↦ λ f. deleted_static (key_terms_of (statement.Delete d)) (x ∷ xs) f
            | false ↦ λ f. full (key_terms_of (statement.Delete d))
                (row_full (statement.Delete d) missing (ap (λ xs. is_row (deletes_in t.columns xs)) e ∙ ap (λ b. is_row (static_or_row b)) f)) (map (λ x. (x.column, deletes x.key)) (x ∷ xs))
          ] refl
  placed_where (statement.Create c) missing = tt
  placed_where (statement.Alter a) missing = tt
  placed_where (statement.Select x) missing = tt

  -- ---- what becomes of rows

  rows_right : (s : Statement) → lacks_key t.columns s ≡ false → list_any (is_of_another_type t.columns) (terms_used s) ≡ false → AllByRecursion (IsRight (relations_of s)) (relations_of s)
  unfolding lacks_key compares_key_with_null
  rows_right s missing types =
      rights (relations_of s) (relations_of s) (neither _ _ (nor _ _ (sym (any_term (is_of_another_type t.columns) s) ∙ types))) (neither _ _ (nor _ _ missing))

  rows_fit : (s : Statement) → lacks_key t.columns s ≡ false → list_any (is_of_another_type t.columns) (terms_used s) ≡ false
      → AllByRecursion IsShort (flat_map limited_values (row_effects t.columns s)) → AllByRecursion (FitsEffect t.columns) (row_effects t.columns s)
  unfolding row_effects limited_values extent_of relations_of
  rows_fit (statement.Insert i) missing types short =
      elim (inserts_static t.columns i.columns) as (λ b. inserts_static t.columns i.columns ≡ b
      → AllByRecursion IsShort (flat_map limited_values (live_effect b (clustered_row (key_terms_of (statement.Insert i)) t.columns)))
      → AllByRecursion (FitsEffect t.columns) (live_effect b (clustered_row (key_terms_of (statement.Insert i)) t.columns))) [
        | true ↦ λ e few. tt
        | false ↦ λ e few. (
          row_fits t.columns narrow is.keyed (key_terms_of (statement.Insert i)) (row_full (statement.Insert i) missing (ap (λ b. is_row (static_or_row b)) e))
              (front_of IsShort (prefix_values (key_terms_of (statement.Insert i)) ks) [] few),
          tt,
        )
      ] refl short
  rows_fit (statement.Delete d) missing types short = by_targets d.targets short
    where
      by_targets : (xs : List Target) → AllByRecursion IsShort (flat_map limited_values (deletion_effects xs (deletion_effect t.columns d.relations)))
          → AllByRecursion (FitsEffect t.columns) (deletion_effects xs (deletion_effect t.columns d.relations))
      by_targets [] few = (deleted_fits d.relations (rows_right (statement.Delete d) missing types) (front_of IsShort (limited_values (deletion_effect t.columns d.relations)) [] few), tt)
      by_targets (x ∷ xs) few = tt
  rows_fit (statement.Update u) missing types short = tt
  rows_fit (statement.Create c) missing types short = tt
  rows_fit (statement.Alter a) missing types short = tt
  rows_fit (statement.Select x) missing types short = tt

  -- ---- the key

  not_given : (s : Statement) (c : Column) → gives_empty s c ≡ false → gives_no_bytes (value_in (key_terms_of s) c) ≡ false
  unfolding gives_empty key_terms_of
  not_given (statement.Insert i) c e = e
  not_given (statement.Update u) c e = not_empty _ c e
  not_given (statement.Delete d) c e = not_empty _ c e
  not_given (statement.Select x) c e = not_empty _ c e
  not_given (statement.Create x) c e = not_empty _ c e
  not_given (statement.Alter a) c e = not_empty _ c e

  pub key_of_it : (s : Statement) → lacks_key t.columns s ≡ false → gives_empty_key t.columns s ≡ false → IsShort (partition_key (key_terms_of s) t.columns)
      → FitsKey (partition_key (key_terms_of s) t.columns)
  unfolding lacks_key gives_empty_key
  key_of_it s missing empty short =
      key_fits (key_terms_of s) t.columns is.keyed (neither _ _ missing)
      (λ c e. not_given s c (ap (λ o. option_map_or (gives_empty s) o false) (sym e) ∙ empty)) short

  -- ---- the write

  changes_right : (s : Statement) → list_any (is_of_another_type t.columns) (terms_used s) ≡ false → list_any (λ p. is_of_another_type t.columns (p.0, changes p.1)) (changes_of s) ≡ false
  changes_right s types = neither _ _ (sym (any_term (is_of_another_type t.columns) s) ∙ types)

  effects_fit : (s : Statement) → lacks_key t.columns s ≡ false → list_any (is_of_another_type t.columns) (terms_used s) ≡ false
      → AllByRecursion IsShort (flat_map limited_values (effects_of t.columns s)) → AllByRecursion (FitsEffect t.columns) (effects_of t.columns s)
  unfolding effects_of
  effects_fit s missing types short =
      let changed : List Effect = flat_map (change_effects t.columns (clustered_row (key_terms_of s) t.columns)) (changes_of s) in
      let both : AllByRecursion IsShort (flat_map limited_values (row_effects t.columns s) ++ flat_map limited_values changed) =
      subst (AllByRecursion IsShort) (flat_map-append limited_values (row_effects t.columns s) changed) short in
      joined (FitsEffect t.columns) (row_effects t.columns s) changed (rows_fit s missing types (front_of IsShort _ _ both))
      (all_changes t.columns (clustered_row (key_terms_of s) t.columns) (changes_of s) (changes_right s types) (placed_where s missing)
      (rest_of IsShort (flat_map limited_values (row_effects t.columns s)) _ both))

  pub write_fits : (shards : ℕ) (s : Statement) → IsShardCount shards → refusal_for (row_reasons t (write_too_large (bound_change shards t s)) s) ≡ None → FitsBound t shards (bound_change shards t s)
  unfolding bound_change row_reasons write_too_large
  write_fits shards s are e =
      let c : Clear (row_reasons t (write_too_large (bound_change shards t s)) s) = clear (row_reasons t (write_too_large (bound_change shards t s)) s) e in
      let short : AllByRecursion IsShort (partition_key (key_terms_of s) t.columns ∷ flat_map limited_values (effects_of t.columns s)) = all_short _ c.too_large in
      let some : 1 ≤ shards = are.0 in
      record {
        of_table = refl;
        shard = mod_below _ shards (omega arith);
        key = key_of_it s c.missing_key c.empty_key short.0;
        timestamp = usable (timestamp_in (uses_of s)) c.bad_option;
        ttl = life_fits t s c.ttl_too_large is.lives;
        effects = All-from_recursion (FitsEffect t.columns) _ (effects_fit s c.missing_key c.wrong_type short.1);
      }
