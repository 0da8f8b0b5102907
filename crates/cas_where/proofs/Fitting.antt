-- The keys, rows and cuts that statements name are ones of their table.
use Rattle.std.proofs.Common.{◌≡◌, ℕ, ◌+◌, ◌<◌, ◌≤◌, ◌==◌, ◌^◌, Bool, true, false, cond, ◌&&◌, ◌||◌, List, [], ◌∷◌, ◌++◌, map, take, length, filter, Option, None, Some, is_none, IfSome, option_map, refl, sym, ap, ◌∙◌, subst, arith}
use Rattle.std.specs.List.{AllByRecursion, list_any, find, filter_map, cons_option}
use Rattle.std.specs.Option.{option_to_list}
use Rattle.std.specs.Str.{bytes_eq}
use Rattle.std.specs.Int.{w16, to_be_bytes}
use Rattle.std.proofs.lemmas.List.{length-map}
use Rattle.std.proofs.lemmas.Bool.Decides.{nat_tests}
use Rattle.cas_types.specs.Keys.{component, composite_key, key_of}
use Rattle.cas_types.specs.Schemas.{is_partition, is_clustering}
use Rattle.cas_types.specs.Values.{is_value}
use Rattle.cas_types.specs.declared.limits.TheConstants.{KEY_LIMIT, COLUMN_LIMIT}
use Rattle.cas_types.specs.declared.schema.Column.{Column}
use Rattle.cas_types.specs.declared.schema.Kind.{Kind}
use Rattle.cas_types.specs.declared.schema.Kind.TheVariants.{Partition, Ascending, Descending, Static, Regular}
use Rattle.cas_bounds.specs.ClusteringOrder.{clustering_order}
use Rattle.cas_bounds.specs.declared.cuts.Cut.{Cut}
use Rattle.cas_bounds.specs.declared.cuts.Slice.{Slice}
use Rattle.cas_bounds.specs.declared.cuts.Clustering.{Clustering}
use Rattle.cas_bounds.specs.declared.order.Ordered.{Ordered}
use Rattle.cas_atoms.specs.Fits.{FitsValues, FitsCut, FitsClustering, FitsKey}
use Rattle.cql_parse.specs.declared.syntax.Relation.{Relation}
use Rattle.cql_parse.specs.declared.term.Term.{Term}
use Rattle.cas_terms.specs.Columns.{partition_columns, clustering_columns}
use Rattle.cas_terms.specs.Constants.{gives_no_bytes}
use Rattle.cas_terms.specs.Terms.{term_value}
use Rattle.cas_terms.proofs.TermValues.{IsOf, term_is}
use Rattle.cas_keys.specs.KeyTerms.{TermOf, term_in_where, value_of_term, value_in, is_missing, in_front, is_equal, partition_key, prefix_values, first_missing}
use Rattle.cas_keys.specs.Keys.{sole_column, restricts_to_empty, lacks_partition, lacks_clustering}
use Rattle.cas_where.specs.Slices.{bound_value, cut_by, cut_at, slice_with, slice_of}
use Rattle.cas_where.proofs.SliceLaws.{order_by, orders, found_passes}

-- of at most 65,535 bytes
abbrev pub IsShort : List ℕ → Type 0
IsShort v = length v ≤ KEY_LIMIT

module _ {X : Type 0} (P : X → Type 0) where
  pub front_of : (xs ys : List X) → AllByRecursion P (xs ++ ys) → AllByRecursion P xs
  front_of [] ys all = tt
  front_of (x ∷ xs) ys all = (all.0, front_of xs ys all.1)

  pub rest_of : (xs ys : List X) → AllByRecursion P (xs ++ ys) → AllByRecursion P ys
  rest_of [] ys all = all
  rest_of (x ∷ xs) ys all = rest_of xs ys all.1

-- ---- values

pub value_is : (terms : TermOf) (c : Column) → IfSome (value_in terms c) (IsOf c.tag)
value_is terms c = by_term (terms c.name)
  where
    by_term : (o : Option Term) → IfSome (value_of_term c o) (IsOf c.tag)
    by_term None = tt
    by_term (Some t) = term_is c.tag t

-- values of the first columns
abbrev TypedFront : List Ordered → List (List ℕ) → Type 0
TypedFront os [] = Unit {0}
TypedFront [] (v ∷ vs) = ⊥
TypedFront (o ∷ os) (v ∷ vs) = (is_value o.tag v ≡ true) × TypedFront os vs

front_fits : (os : List Ordered) (vs : List (List ℕ)) → TypedFront os vs → AllByRecursion IsShort vs → FitsValues (take (length vs) os) vs × (length vs ≤ length os)
front_fits os [] typed short = (tt, omega arith)
front_fits [] (v ∷ vs) typed short = absurd typed
front_fits (o ∷ os) (v ∷ vs) typed short =
    let rest : FitsValues (take (length vs) os) vs × (length vs ≤ length os) = front_fits os vs typed.1 short.1 in
    let few : length v ≤ KEY_LIMIT = short.0 in
    let more : length vs ≤ length os = rest.1 in
    (((omega arith, typed.0), rest.0), omega arith)

module _ (terms : TermOf) where
  prefix_typed : (ks : List Column) → TypedFront (map order_by ks) (prefix_values terms ks)
  unfolding prefix_values
  prefix_typed [] = tt
  prefix_typed (k ∷ ks) = in_turn (prefix_typed ks) (value_in terms k) (value_is terms k)
    where
      in_turn : TypedFront (map order_by ks) (prefix_values terms ks) → (o : Option (List ℕ)) → IfSome o (IsOf k.tag)
          → TypedFront (order_by k ∷ map order_by ks) (in_front o (prefix_values terms ks))
      in_turn rest None is = tt
      in_turn rest (Some v) is = (is, rest)

  ended : (k : Column) (os : List Ordered) (x : Option (List ℕ)) → IfSome x (IsOf k.tag) → TypedFront (order_by k ∷ os) (option_to_list x)
  ended k os None is = tt
  ended k os (Some b) is = (is, tt)

  -- a bound comes after the prefix, and is of the first column that has no value
  bound_typed : (ks : List Column) (c : Column) (x : Option (List ℕ)) → first_missing terms ks ≡ Some c → IfSome x (IsOf c.tag)
      → TypedFront (map order_by ks) (prefix_values terms ks ++ option_to_list x)
  unfolding prefix_values first_missing is_missing
  bound_typed [] c x e is = cc
  bound_typed (k ∷ ks) c x e is = in_turn (λ f. bound_typed ks c x f is) (value_in terms k) (value_is terms k) e
    where
      in_turn : (find (λ c. is_none (value_in terms c)) ks ≡ Some c → TypedFront (map order_by ks) (prefix_values terms ks ++ option_to_list x))
          → (o : Option (List ℕ)) → IfSome o (IsOf k.tag) → cond (is_none o) (Some k) (find (λ c. is_none (value_in terms c)) ks) ≡ Some c
          → TypedFront (order_by k ∷ map order_by ks) (in_front o (prefix_values terms ks) ++ option_to_list x)
      in_turn rest None of_k f = let same : c ≡ k = cc in ended k (map order_by ks) x (subst (λ d. IfSome x (IsOf d.tag)) same is)
      in_turn rest (Some v) of_k f = (of_k, rest f)

  full_values : (ks : List Column) → list_any (is_missing terms) ks ≡ false → AllByRecursion IsShort (prefix_values terms ks) → FitsValues (map order_by ks) (prefix_values terms ks)
  unfolding prefix_values is_missing
  full_values [] none short = tt
  full_values (k ∷ ks) none short = in_turn (λ n few. full_values ks n few) (value_in terms k) (value_is terms k) none short
    where
      in_turn : (list_any (λ c. is_none (value_in terms c)) ks ≡ false → AllByRecursion IsShort (prefix_values terms ks) → FitsValues (map order_by ks) (prefix_values terms ks))
          → (o : Option (List ℕ)) → IfSome o (IsOf k.tag) → (is_none o || list_any (λ c. is_none (value_in terms c)) ks) ≡ false
          → AllByRecursion IsShort (in_front o (prefix_values terms ks)) → FitsValues (order_by k ∷ map order_by ks) (in_front o (prefix_values terms ks))
      in_turn rest None is n few = cc
      in_turn rest (Some v) is n few = let small : length v ≤ KEY_LIMIT = few.0 in ((omega arith, is), rest n few.1)

-- ---- how many columns there are

few_clustering : (cs : List Column) → length (clustering_columns cs) ≤ length cs
few_clustering [] = omega arith
few_clustering (c ∷ cs) =
    elim (is_clustering c.kind) as (λ b. length (cond b (c ∷ clustering_columns cs) (clustering_columns cs)) ≤ length (c ∷ cs)) [
      | true ↦ omega (arith, few_clustering cs)
      | false ↦ omega (arith, few_clustering cs)
    ]

fewer_clustering : (cs : List Column) → list_any (λ c. is_partition c.kind) cs ≡ true → length (clustering_columns cs) < length cs
fewer_clustering [] some = cc
fewer_clustering (c ∷ cs) some = by_kind (λ s. fewer_clustering cs s) c.kind some
  where
    by_kind : (list_any (λ c. is_partition c.kind) cs ≡ true → length (clustering_columns cs) < length cs) → (k : Kind) → (is_partition k || list_any (λ c. is_partition c.kind) cs) ≡ true
        → length (cond (is_clustering k) (c ∷ clustering_columns cs) (clustering_columns cs)) < length (c ∷ cs)
    by_kind rest Partition s = omega (arith, few_clustering cs)
    by_kind rest Ascending s = omega (arith, rest s)
    by_kind rest Descending s = omega (arith, rest s)
    by_kind rest Static s = omega (arith, rest s)
    by_kind rest Regular s = omega (arith, rest s)

few_orders : (cs : List Column) → length cs ≤ COLUMN_LIMIT → list_any (λ c. is_partition c.kind) cs ≡ true → length (clustering_order cs) < 2 ^ 8
few_orders cs narrow keyed =
    let as_many : length (clustering_order cs) ≡ length (clustering_columns cs) = ap length (orders cs) ∙ length-map (clustering_columns cs) order_by in
    omega (arith, fewer_clustering cs keyed)

-- ---- rows and cuts

module _ (cs : List Column) (narrow : length cs ≤ COLUMN_LIMIT) (keyed : list_any (λ c. is_partition c.kind) cs ≡ true) where
  pub row_fits : (terms : TermOf) → list_any (is_missing terms) (clustering_columns cs) ≡ false → AllByRecursion IsShort (prefix_values terms (clustering_columns cs))
      → FitsClustering (clustering_order cs) (record { values = prefix_values terms (clustering_columns cs); order = clustering_order cs })
  row_fits terms full short =
      (refl, subst (λ os. FitsValues os (prefix_values terms (clustering_columns cs))) (sym (orders cs)) (full_values terms (clustering_columns cs) full short), few_orders cs narrow keyed)

  cut_fits : (c : Cut) → c.order ≡ clustering_order cs → TypedFront (map order_by (clustering_columns cs)) c.prefix → AllByRecursion IsShort c.prefix → FitsCut (clustering_order cs) c
  cut_fits c same typed short =
      let its : FitsValues (take (length c.prefix) (clustering_order cs)) c.prefix × (length c.prefix ≤ length (clustering_order cs)) =
      front_fits (clustering_order cs) c.prefix (subst (λ os. TypedFront os c.prefix) (sym (orders cs)) typed) short in
      let within : length c.prefix ≤ length (clustering_order cs) = its.1 in
      (same, its.0, within, omega (arith, few_orders cs narrow keyed))

  module _ (rs : List Relation) where
    cut_typed : (c : Column) (is_end : Bool) (o : Option Relation) → first_missing (term_in_where rs) (clustering_columns cs) ≡ Some c
        → TypedFront (map order_by (clustering_columns cs)) (cut_by (clustering_order cs) (prefix_values (term_in_where rs) (clustering_columns cs)) c is_end o).prefix
    cut_typed c is_end None e = prefix_typed (term_in_where rs) (clustering_columns cs)
    cut_typed c is_end (Some r) e = bound_typed (term_in_where rs) (clustering_columns cs) c (term_value c.tag r.value) e (term_is c.tag r.value)

    cut_ordered : (c : Column) (is_end : Bool) (prefix : List (List ℕ)) (o : Option Relation) → (cut_by (clustering_order cs) prefix c is_end o).order ≡ clustering_order cs
    cut_ordered c is_end prefix None = refl
    cut_ordered c is_end prefix (Some r) = refl

    abbrev with_missing : Option Column → Slice
    with_missing m = slice_with (clustering_order cs) rs (prefix_values (term_in_where rs) (clustering_columns cs)) m

    by_missing : (m : Option Column) → first_missing (term_in_where rs) (clustering_columns cs) ≡ m
        → AllByRecursion IsShort (with_missing m).lo.prefix → AllByRecursion IsShort (with_missing m).hi.prefix
        → FitsCut (clustering_order cs) (with_missing m).lo × FitsCut (clustering_order cs) (with_missing m).hi
    unfolding cut_at
    by_missing None e lo hi = (
      cut_fits (with_missing None).lo refl (prefix_typed (term_in_where rs) (clustering_columns cs)) lo,
      cut_fits (with_missing None).hi refl (prefix_typed (term_in_where rs) (clustering_columns cs)) hi,
    )
    by_missing (Some c) e lo hi =
        (cut_fits (with_missing (Some c)).lo (cut_ordered c false _ _) (cut_typed c false _ e) lo, cut_fits (with_missing (Some c)).hi (cut_ordered c true _ _) (cut_typed c true _ e) hi)

    pub slice_fits : AllByRecursion IsShort (slice_of cs rs).lo.prefix → AllByRecursion IsShort (slice_of cs rs).hi.prefix
        → FitsCut (clustering_order cs) (slice_of cs rs).lo × FitsCut (clustering_order cs) (slice_of cs rs).hi
    unfolding slice_of
    slice_fits lo hi = by_missing (first_missing (term_in_where rs) (clustering_columns cs)) refl lo hi

-- ---- keys

has_bytes : (o : Option (List ℕ)) (v : List ℕ) → o ≡ Some v → gives_no_bytes o ≡ false → 1 ≤ length v
has_bytes None v e some = cc
has_bytes (Some []) v e some = cc
has_bytes (Some (b ∷ bs)) v e some = let same : b ∷ bs ≡ v = cc in subst (λ l. 1 ≤ length l) same (omega arith)

some_bytes : (v w : List ℕ) (vs : List (List ℕ)) → 1 ≤ length (key_of (v ∷ w ∷ vs))
some_bytes v w vs = omega arith

module _ (terms : TermOf) where
  key_bytes : (ps : List Column) → (length ps == 0) ≡ false → list_any (is_missing terms) ps ≡ false
      → ((c : Column) → sole_column ps ≡ Some c → gives_no_bytes (value_in terms c) ≡ false) → 1 ≤ length (key_of (filter_map (value_in terms) ps))
  unfolding is_missing sole_column
  key_bytes [] some full bytes = cc
  key_bytes (c ∷ []) some full bytes = one (value_in terms c) refl full
    where
      one : (o : Option (List ℕ)) → value_in terms c ≡ o → (is_none o || false) ≡ false → 1 ≤ length (key_of (cons_option o []))
      one None e n = cc
      one (Some v) e n = has_bytes (value_in terms c) v e (bytes c refl)
  key_bytes (c ∷ d ∷ ps) some full bytes = two (value_in terms c) (value_in terms d) full
    where
      two : (o p : Option (List ℕ)) → (is_none o || (is_none p || list_any (λ c. is_none (value_in terms c)) ps)) ≡ false
          → 1 ≤ length (key_of (cons_option o (cons_option p (filter_map (value_in terms) ps))))
      two None p n = cc
      two (Some v) None n = cc
      two (Some v) (Some w) n = some_bytes v w (filter_map (value_in terms) ps)

  has_partition : (cs : List Column) → list_any (λ c. is_partition c.kind) cs ≡ true → (length (partition_columns cs) == 0) ≡ false
  has_partition [] some = cc
  has_partition (c ∷ cs) some =
      elim (is_partition c.kind) as (λ b. (b || list_any (λ c. is_partition c.kind) cs) ≡ true → (length (cond b (c ∷ partition_columns cs) (partition_columns cs)) == 0) ≡ false) [
        | true ↦ λ s. grind (arith, nat_tests)
        | false ↦ λ s. has_partition cs s
      ] some

  pub key_fits : (cs : List Column) → list_any (λ c. is_partition c.kind) cs ≡ true → lacks_partition terms cs ≡ false
      → ((c : Column) → sole_column (partition_columns cs) ≡ Some c → gives_no_bytes (value_in terms c) ≡ false) → IsShort (partition_key terms cs) → FitsKey (partition_key terms cs)
  unfolding partition_key lacks_partition
  key_fits cs keyed full bytes short = (key_bytes (partition_columns cs) (has_partition cs keyed) full bytes, short)

-- what no item of a list is, the one that is found isn't
pub found_isnt : {X : Type 0} (q p : X → Bool) (xs : List X) (y : X) → list_any q xs ≡ false → find p xs ≡ Some y → q y ≡ false
found_isnt q p [] y none e = cc
found_isnt q p (x ∷ xs) y none e =
    elim (p x) as (λ b. cond b (Some x) (find p xs) ≡ Some y → q y ≡ false) [
      | true ↦ λ f. let same : x ≡ y = cc in ap q (sym same) ∙ neither (q x) (list_any q xs) none
      | false ↦ λ f. found_isnt q p xs y (nor (q x) (list_any q xs) none) f
    ] e
  where
    neither : (a b : Bool) → (a || b) ≡ false → a ≡ false
    neither true b n = cc
    neither false b n = refl

    nor : (a b : Bool) → (a || b) ≡ false → b ≡ false
    nor true b n = cc
    nor false b n = n

-- what a WHERE says isn't empty is given no empty value
pub not_empty : (rs : List Relation) (c : Column) → restricts_to_empty rs c ≡ false → gives_no_bytes (value_in (term_in_where rs) c) ≡ false
unfolding restricts_to_empty term_in_where
not_empty rs c none = by_found (find (λ r. bytes_eq r.column c.name && is_equal r.operator) rs) refl
  where
    by_found : (o : Option Relation) → find (λ r. bytes_eq r.column c.name && is_equal r.operator) rs ≡ o
        → gives_no_bytes (value_of_term c (option_map (λ r. r.value) o)) ≡ false
    by_found None e = refl
    by_found (Some r) e =
        ap (λ b. b && gives_no_bytes (term_value c.tag r.value)) (sym (found_passes (λ r. bytes_eq r.column c.name && is_equal r.operator) rs r e))
        ∙ found_isnt (λ r. (bytes_eq r.column c.name && is_equal r.operator) && gives_no_bytes (term_value c.tag r.value))
        (λ r. bytes_eq r.column c.name && is_equal r.operator) rs r none e
