-- What a change does to its column is what the column can take.
use Rattle.std.proofs.Common.{◌≡◌, ℕ, suc, min, ◌+◌, ◌-◌, ◌≤◌, ◌^◌, nat_lt, Bool, true, false, cond, not, ◌&&◌, ◌||◌, if◌then◌else◌, List, [], ◌∷◌, ◌++◌, map, length, Option, None, Some, option_map, IfSome, refl, sym, ap, ◌∙◌, subst, arith}
use Rattle.std.specs.List.{AllByRecursion, enumerate_from, list_any, find, flat_map, slice_get}
use Rattle.std.specs.Option.{option_map_or}
use Rattle.std.specs.Str.{bytes_eq}
use Rattle.std.proofs.lemmas.Bool.Decides.{nat_tests}
use Rattle.std.proofs.lemmas.List.Elements.{All-from_recursion}
use Rattle.std.proofs.lemmas.Grind.{flat_map-append}
use Rattle.cas_types.specs.Schemas.{is_key, is_static, is_plain, is_list, type_or_blob}
use Rattle.cas_types.specs.declared.limits.TheConstants.{KEY_LIMIT}
use Rattle.cas_types.specs.declared.schema.Column.{Column}
use Rattle.cas_types.specs.declared.schema.Kind.{Kind}
use Rattle.cas_types.specs.declared.schema.Kind.TheVariants.{Partition, Ascending, Descending, Static, Regular}
use Rattle.cas_types.specs.declared.schema.Shape.{Shape}
use Rattle.cas_types.specs.declared.schema.Shape.TheVariants as shape
use Rattle.cas_bounds.specs.declared.cuts.Clustering.{Clustering}
use Rattle.cas_atoms.specs.Fits.{FitsPath, Names, is_path, is_cell_value}
use Rattle.cas_effects.specs.FitsBound.{kind_in, FitsRow, FitsColumn, FitsGiven, FitsElements, FitsEffect}
use Rattle.cas_effects.specs.TooLarge.{too_large, limited_elements, limited_values, row_values}
use Rattle.cas_effects.specs.declared.effect.Effect.TheVariants as effect
use Rattle.cas_effects.specs.declared.effect.Elements.{Elements}
use Rattle.cas_effects.specs.declared.effect.Elements.TheVariants as elements
use Rattle.cas_effects.specs.declared.refusal.Refusal.{Refusal}
use Rattle.cas_effects.specs.declared.refusal.Refusal.TheVariants.{TooLarge}
use Rattle.cql_parse.specs.declared.term.Constant.{Constant}
use Rattle.cql_parse.specs.declared.term.Term.{Term}
use Rattle.cql_parse.specs.declared.syntax.Assigned.{Assigned}
use Rattle.cql_parse.specs.declared.syntax.Assigned.TheVariants as assigned
use Rattle.cas_terms.specs.Columns.{column_named, located, column_ref}
use Rattle.cas_terms.specs.Terms.{term_value, whole_elements, assigned_fits}
use Rattle.cas_terms.proofs.TermValues.{IsOf, AreOf, in_one, term_is, given_are, whole_are, prepended_are, removed_are, entry_are}
use Rattle.cas_where.proofs.Fitting.{IsShort, front_of, rest_of}
use Rattle.cas_writes.specs.Changes.{row_for, whole_effect, assigned_effect, deleted_effect, column_effect, outside_key, change_effects}
use Rattle.cas_mentions.specs.ColumnFaults.{target_fits, mention_fits, is_of_another_type}
use Rattle.cas_mentions.specs.Mentions.{Change, assigns, deletes, changes}

pub neither : (a b : Bool) → (a || b) ≡ false → a ≡ false
neither true b n = cc
neither false b n = refl

pub nor : (a b : Bool) → (a || b) ≡ false → b ≡ false
nor true b n = cc
nor false b n = n

pub joined : {X : Type 0} (P : X → Type 0) (xs ys : List X) → AllByRecursion P xs → AllByRecursion P ys → AllByRecursion P (xs ++ ys)
joined P [] ys first rest = rest
joined P (x ∷ xs) ys first rest = (first.0, joined P xs ys first.1 rest)

-- ---- no value is too large

abbrev told : List ℕ → Refusal
told v = TooLarge (min (length v) (2 ^ 64 - 1)) KEY_LIMIT

pub all_short : (vs : List (List ℕ)) → too_large vs ≡ None → AllByRecursion IsShort vs
unfolding too_large
all_short [] e = tt
all_short (v ∷ vs) e =
    elim (nat_lt KEY_LIMIT (length v)) as (λ b. nat_lt KEY_LIMIT (length v) ≡ b → option_map told (cond b (Some v) (find (λ v. nat_lt KEY_LIMIT (length v)) vs)) ≡ None → AllByRecursion IsShort (v ∷ vs)) [
      | true ↦ λ is n. cc
      | false ↦ λ is n. (grind (arith, nat_tests), all_short vs n)
    ] refl e

-- ---- a column and its number

abbrev located_from : ℕ → List Column → List ℕ → Option (ℕ × Column)
located_from i cs n = find (λ p. bytes_eq p.1.name n) (enumerate_from i cs)

module _ (cs₀ : List Column) (n : List ℕ) where
  its_place : (i : ℕ) (cs : List Column) (l : ℕ × Column) → located_from i cs n ≡ Some l → (i ≤ l.0) × (slice_get cs (l.0 - i) ≡ Some l.1) × (column_named cs n ≡ Some l.1)
  unfolding column_named
  its_place i [] l e = cc
  its_place i (c ∷ cs) l e =
      elim (bytes_eq c.name n) as (λ b. cond b (Some (i, c)) (located_from (i + 1) cs n) ≡ Some l
      → (i ≤ l.0) × (slice_get (c ∷ cs) (l.0 - i) ≡ Some l.1) × (cond b (Some c) (find (λ c. bytes_eq c.name n) cs) ≡ Some l.1)) [
        | true ↦ λ f. let number : i ≡ l.0 = cc in let column : c ≡ l.1 = cc in
            (omega arith, subst (λ k. slice_get (c ∷ cs) k ≡ Some l.1) (let none : 0 ≡ l.0 - i = omega arith in none) (ap (λ d. Some d) column), ap (λ d. Some d) column)
        | false ↦ λ f.
            let rest : (i + 1 ≤ l.0) × (slice_get cs (l.0 - (i + 1)) ≡ Some l.1) × (column_named cs n ≡ Some l.1) = its_place (i + 1) cs l f in
            let past : i + 1 ≤ l.0 = rest.0 in
            (omega arith, subst (λ k. slice_get (c ∷ cs) k ≡ Some l.1) (let next : suc (l.0 - (i + 1)) ≡ l.0 - i = omega arith in next) rest.1, rest.2)
      ] e

  pub is_there : (l : ℕ × Column) → located cs₀ n ≡ Some l → (slice_get cs₀ l.0 ≡ Some l.1) × (column_named cs₀ n ≡ Some l.1)
  is_there l e =
      let its : (0 ≤ l.0) × (slice_get cs₀ (l.0 - 0) ≡ Some l.1) × (column_named cs₀ n ≡ Some l.1) = its_place 0 cs₀ l e in
      (subst (λ k. slice_get cs₀ k ≡ Some l.1) (let same : l.0 - 0 ≡ l.0 = omega arith in same) its.1, its.2)

-- ---- elements that are short enough

paths_fit : (c : Column) (es : List (List ℕ × Option (List ℕ))) → AllByRecursion (λ e. (is_path c e.0 ≡ true) × FitsGiven c e.1) es → AllByRecursion IsShort (map (λ e. e.0) es)
    → AllByRecursion (λ e. FitsPath c e.0 × FitsGiven c e.1) es
paths_fit c [] all short = tt
paths_fit c (e ∷ es) all short = let few : length e.0 ≤ KEY_LIMIT = short.0 in (((omega arith, all.0.0), all.0.1), paths_fit c es all.1 short.1)

elements_fit : (c : Column) (es : Elements) → AreOf c es → AllByRecursion IsShort (limited_elements es) → FitsElements c es
unfolding limited_elements
elements_fit c (elements.At es) are short = All-from_recursion (λ e. FitsPath c e.0 × FitsGiven c e.1) es (paths_fit c es are short)
elements_fit c (elements.Appended vs) are short = (are.0, All-from_recursion (λ v. is_cell_value c v ≡ true) vs are.1)
elements_fit c (elements.Prepended vs) are short = (are.0, All-from_recursion (λ v. is_cell_value c v ≡ true) vs are.1)

-- ---- the effect of a change

module _ (columns : List Column) (row : Clustering) (n : ℕ) (c : Column) (there : slice_get columns n ≡ Some c) (other : is_key c.kind ≡ false)
    (placed : is_static c.kind ≡ false → AllByRecursion IsShort row.values → FitsRow columns (Some row)) where
  named : Names columns (column_ref n c) c
  named = record { there = there; path = refl }

  right_kind : (k : Kind) → is_key k ≡ false → kind_in (if is_static k then None else Some row) k ≡ true
  right_kind Partition e = cc
  right_kind Ascending e = cc
  right_kind Descending e = cc
  right_kind Static e = refl
  right_kind Regular e = refl

  in_place : AllByRecursion IsShort (row_values (row_for row c)) → FitsRow columns (row_for row c)
  in_place short =
      elim (is_static c.kind) as (λ b. is_static c.kind ≡ b → AllByRecursion IsShort (row_values (if b then None else Some row)) → FitsRow columns (if b then None else Some row)) [
        | true ↦ λ is s. tt
        | false ↦ λ is s. placed is s
      ] refl short

  it_is : (Holds : Column → Type 0) → AllByRecursion IsShort (row_values (row_for row c)) → Holds c → FitsColumn columns (row_for row c) (column_ref n c) Holds
  it_is Holds short holds = record { place = in_place short; column = c; named = named; kind = right_kind c.kind other; holds = holds }

  parts : (es : Elements) → AreOf c es → AllByRecursion IsShort (limited_values (effect.Parts (row_for row c) (column_ref n c) es)) → FitsEffect columns (effect.Parts (row_for row c) (column_ref n c) es)
  unfolding limited_values
  parts es are short =
      it_is (λ d. FitsElements d es) (front_of IsShort (row_values (row_for row c)) (limited_elements es) short)
      (elements_fit c es are (rest_of IsShort (row_values (row_for row c)) (limited_elements es) short))

  one_shape : (s : Shape) → is_plain s ≡ true → s ≡ shape.One
  one_shape shape.One e = refl
  one_shape shape.Set e = cc
  one_shape shape.List e = cc
  one_shape shape.Map e = cc

  given : c.shape ≡ shape.One → (o : Option (List ℕ)) → IfSome o (IsOf c.tag) → FitsGiven c o
  given e None is = tt
  given e (Some v) is = in_one c e v is

  whole : (t : Term) → AllByRecursion IsShort (limited_values (whole_effect row n c t)) → FitsEffect columns (whole_effect row n c t)
  unfolding whole_effect limited_values
  whole t short =
      elim (is_plain c.shape) as (λ b. is_plain c.shape ≡ b
      → AllByRecursion IsShort (limited_values (if b then effect.Plain (row_for row c) (column_ref n c) (term_value c.tag t) else effect.Whole (row_for row c) (column_ref n c) (whole_elements c t)))
      → FitsEffect columns (if b then effect.Plain (row_for row c) (column_ref n c) (term_value c.tag t) else effect.Whole (row_for row c) (column_ref n c) (whole_elements c t))) [
        | true ↦ λ is s. let one : c.shape ≡ shape.One = one_shape c.shape is in
            it_is (λ d. (d.shape ≡ shape.One) × FitsGiven d (term_value c.tag t)) s (one, given one (term_value c.tag t) (term_is c.tag t))
        | false ↦ λ is s.
            it_is (λ d. (is_plain d.shape ≡ false) × FitsElements d (whole_elements c t)) (front_of IsShort (row_values (row_for row c)) (limited_elements (whole_elements c t)) s)
            (is, elements_fit c (whole_elements c t) (whole_are c t) (rest_of IsShort (row_values (row_for row c)) (limited_elements (whole_elements c t)) s))
      ] refl short

  first : (a b : Bool) → (a && b) ≡ true → a ≡ true
  first true b e = refl
  first false b e = cc

  list_shape : (s : Shape) → is_list s ≡ true → s ≡ shape.List
  list_shape shape.One e = cc
  list_shape shape.Set e = cc
  list_shape shape.List e = refl
  list_shape shape.Map e = cc

  assigned_it : (a : Assigned) → assigned_fits c a ≡ true → AllByRecursion IsShort (limited_values (assigned_effect row n c a)) → FitsEffect columns (assigned_effect row n c a)
  unfolding assigned_effect assigned_fits
  assigned_it (assigned.Whole t) fits short = whole t short
  assigned_it (assigned.Append d x) fits short = parts _ (given_are c x) short
  assigned_it (assigned.Prepend x d) fits short = parts _ (prepended_are c x (list_shape c.shape (first _ _ fits))) short
  assigned_it (assigned.Remove d x) fits short = parts _ (removed_are c x fits) short
  assigned_it (assigned.Entry k t) fits short = parts _ (entry_are c k _ (first _ _ fits) (term_is (type_or_blob c.second) t)) short

  deleted_it : (k : Option Constant) → target_fits c k ≡ true → AllByRecursion IsShort (limited_values (deleted_effect row n c k)) → FitsEffect columns (deleted_effect row n c k)
  unfolding deleted_effect limited_values
  deleted_it None fits short =
      elim (is_plain c.shape) as (λ b. is_plain c.shape ≡ b
      → AllByRecursion IsShort (limited_values (if b then effect.Plain (row_for row c) (column_ref n c) None else effect.Emptied (row_for row c) (column_ref n c)))
      → FitsEffect columns (if b then effect.Plain (row_for row c) (column_ref n c) None else effect.Emptied (row_for row c) (column_ref n c))) [
        | true ↦ λ is s. it_is (λ d. (d.shape ≡ shape.One) × FitsGiven d None) s (one_shape c.shape is, tt)
        | false ↦ λ is s. it_is (λ d. is_plain d.shape ≡ false) s is
      ] refl short
  deleted_it (Some k) fits short = parts _ (entry_are c k None fits tt) short

  pub changed_it : (x : Change) → mention_fits c (changes x) ≡ true → AllByRecursion IsShort (limited_values (column_effect row n c x)) → FitsEffect columns (column_effect row n c x)
  unfolding column_effect mention_fits
  changed_it (assigns a) fits short = assigned_it a fits short
  changed_it (deletes k) fits short = deleted_it k fits short

-- ---- all changes

module _ (columns : List Column) (row : Clustering) where
  -- a row that is written has a value of each clustering column
  abbrev pub IsPlaced : List ℕ × Change → Type 0
  IsPlaced p = (l : ℕ × Column) → located columns p.0 ≡ Some l → is_key l.1.kind ≡ false → is_static l.1.kind ≡ false → AllByRecursion IsShort row.values → FitsRow columns (Some row)

  of_its_type : (p : List ℕ × Change) (c : Column) → column_named columns p.0 ≡ Some c → is_of_another_type columns (p.0, changes p.1) ≡ false → mention_fits c (changes p.1) ≡ true
  unfolding is_of_another_type
  of_its_type p c e right = as_it_is (mention_fits c (changes p.1)) (ap (λ o. option_map_or (λ c. not (mention_fits c (changes p.1))) o false) (sym e) ∙ right)
    where
      as_it_is : (b : Bool) → not b ≡ false → b ≡ true
      as_it_is true e = refl
      as_it_is false e = cc

  one_change : (p : List ℕ × Change) → is_of_another_type columns (p.0, changes p.1) ≡ false → IsPlaced p → AllByRecursion IsShort (flat_map limited_values (change_effects columns row p))
      → AllByRecursion (FitsEffect columns) (change_effects columns row p)
  unfolding change_effects
  one_change p right placed short = by_place (located columns p.0) refl short
    where
      by_place : (o : Option (ℕ × Column)) → located columns p.0 ≡ o → AllByRecursion IsShort (flat_map limited_values (outside_key (λ n c. column_effect row n c p.1) o))
          → AllByRecursion (FitsEffect columns) (outside_key (λ n c. column_effect row n c p.1) o)
      by_place None e s = tt
      by_place (Some l) e s =
          elim (is_key l.1.kind) as (λ b. is_key l.1.kind ≡ b → AllByRecursion IsShort (flat_map limited_values (if b then [] else column_effect row l.0 l.1 p.1 ∷ []))
          → AllByRecursion (FitsEffect columns) (if b then [] else column_effect row l.0 l.1 p.1 ∷ [])) [
            | true ↦ λ is t. tt
            | false ↦ λ is t. (
              changed_it columns row l.0 l.1 (is_there columns p.0 l e).0 is (placed l e is) p.1
                  (of_its_type p l.1 (is_there columns p.0 l e).1 right) (front_of IsShort (limited_values (column_effect row l.0 l.1 p.1)) [] t),
              tt,
            )
          ] refl s

  pub all_changes : (ps : List (List ℕ × Change)) → list_any (λ p. is_of_another_type columns (p.0, changes p.1)) ps ≡ false → AllByRecursion IsPlaced ps
      → AllByRecursion IsShort (flat_map limited_values (flat_map (change_effects columns row) ps)) → AllByRecursion (FitsEffect columns) (flat_map (change_effects columns row) ps)
  all_changes [] right placed short = tt
  all_changes (p ∷ ps) right placed short =
      let both : AllByRecursion IsShort (flat_map limited_values (change_effects columns row p) ++ flat_map limited_values (flat_map (change_effects columns row) ps)) =
      subst (AllByRecursion IsShort) (flat_map-append limited_values (change_effects columns row p) (flat_map (change_effects columns row) ps)) short in
      joined (FitsEffect columns) (change_effects columns row p) (flat_map (change_effects columns row) ps)
      (one_change p (neither _ _ right) placed.0 (front_of IsShort _ _ both)) (all_changes ps (nor _ _ right) placed.1 (rest_of IsShort (flat_map limited_values (change_effects columns row p)) _ both))
