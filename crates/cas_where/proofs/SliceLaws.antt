-- A row lies in the slice of a WHERE exactly where each relation on a clustering column holds of it.
use Rattle.std.proofs.Common.{◌≡◌, ◌⊎◌, inl, inr, ℕ, ◌+◌, ◌≤◌, nat_le, Bool, true, false, cond, not, ◌&&◌, ◌||◌, if◌then◌else◌, List, [], ◌∷◌, length, map, Option, None, Some, is_some, is_none, option_map, refl, sym, ap, ◌∙◌, eqb-true, arith}
use Rattle.std.specs.Bool.{then_some}
use Rattle.std.specs.List.{list_all, find, filter_map, cons_option, count_by}
use Rattle.std.specs.Option.{option_map_or, option_to_list}
use Rattle.std.specs.Ordering.{is_lt, is_gt, is_eq, ordering_then, ordering_reverse}
use Rattle.std.specs.Str.{bytes_eq}
use Rattle.std.specs.declared.cmp.Ordering.{Ordering}
use Rattle.std.specs.declared.cmp.Ordering.TheVariants.{Less, Equal, Greater}
use Rattle.std.proofs.lemmas.Bool.Decides.{nat_tests}
use Rattle.std.proofs.lemmas.List.Sums.{sum_by-cons}
use Rattle.cas_types.specs.Schemas.{is_clustering, is_descending}
use Rattle.cas_types.specs.Values.{value_cmp}
use Rattle.cas_types.specs.declared.schema.Column.{Column}
use Rattle.cas_types.specs.declared.tag.TypeTag.{TypeTag}
use Rattle.cas_types.proofs.OrderLaws.{value_orders}
use Rattle.cas_bounds.specs.ClusteringOrder.{ordered_by, clustering_order}
use Rattle.cas_bounds.specs.Cuts.{is_past, is_inside}
use Rattle.cas_bounds.specs.Orders.{column_cmp}
use Rattle.cas_bounds.specs.declared.order.Ordered.{Ordered}
use Rattle.cql_parse.specs.declared.syntax.Operator.{Operator}
use Rattle.cql_parse.specs.declared.syntax.Operator.TheVariants as operator
use Rattle.cql_parse.specs.declared.syntax.Relation.{Relation}
use Rattle.cas_terms.specs.Columns.{clustering_columns}
use Rattle.cas_terms.specs.Terms.{term_value}
use Rattle.cas_keys.specs.KeyTerms.{is_equal, term_in_where, value_of_term, value_in, is_missing, in_front, prefix_values, first_missing}
use Rattle.cas_where.specs.Slices.{is_strict, is_at_begin, is_at_end, cut, cut_by, cut_at, slice_with, slice_of}
use Rattle.cas_where.specs.Where.{is_lower, is_upper, count_on, count_all, is_fixed, is_bounded, is_free, makes_slice}
use Rattle.cas_where.specs.WhereLaws.{operator_holds, relation_holds, column_meets, row_meets, compares_values, SliceLaw}

-- ---- counting what passes a test

and_true : (b : Bool) → (b && true) ≡ b
and_true true = refl
and_true false = refl

and_swap : (a b : Bool) → (a && b) ≡ (b && a)
and_swap true true = refl
and_swap true false = refl
and_swap false true = refl
and_swap false false = refl

pub first_true : (a b : Bool) → (a && b) ≡ true → a ≡ true
first_true true b e = refl
first_true false b e = cc

pub second_true : (a b : Bool) → (a && b) ≡ true → b ≡ true
second_true true b e = e
second_true false b e = cc

module _ {X : Type 0} where
  shrinks : (p : X → Bool) (x : X) (xs : List X) → count_by p xs ≤ count_by p (x ∷ xs)
  shrinks p x xs = omega (arith, sum_by-cons (λ y. cond (p y) 1 0) x xs)

  counted : (p : X → Bool) (x : X) (xs : List X) → p x ≡ true → count_by p (x ∷ xs) ≡ 1 + count_by p xs
  counted p x xs is = sum_by-cons (λ y. cond (p y) 1 0) x xs ∙ ap (λ b. cond b 1 0 + count_by p xs) is

  passed : (p : X → Bool) (x : X) (xs : List X) → p x ≡ false → count_by p (x ∷ xs) ≡ count_by p xs
  passed p x xs is = sum_by-cons (λ y. cond (p y) 1 0) x xs ∙ ap (λ b. cond b 1 0 + count_by p xs) is ∙ omega arith

  none_found : (p : X → Bool) (xs : List X) → count_by p xs ≡ 0 → find p xs ≡ None
  none_found p [] none = refl
  none_found p (x ∷ xs) none =
      elim (p x) as (λ b. p x ≡ b → cond b (Some x) (find p xs) ≡ None) [
        | true ↦ λ is. absurd (omega (arith, counted p x xs is))
        | false ↦ λ is. none_found p xs (sym (passed p x xs is) ∙ none)
      ] refl

  none_counted : (p : X → Bool) (xs : List X) → find p xs ≡ None → count_by p xs ≡ 0
  none_counted p [] none = refl
  none_counted p (x ∷ xs) none =
      elim (p x) as (λ b. p x ≡ b → cond b (Some x) (find p xs) ≡ None → count_by p (x ∷ xs) ≡ 0) [
        | true ↦ λ is n. cc
        | false ↦ λ is n. passed p x xs is ∙ none_counted p xs n
      ] refl none

  pub found_passes : (p : X → Bool) (xs : List X) (y : X) → find p xs ≡ Some y → p y ≡ true
  found_passes p [] y e = cc
  found_passes p (x ∷ xs) y e =
      elim (p x) as (λ b. p x ≡ b → cond b (Some x) (find p xs) ≡ Some y → p y ≡ true) [
        | true ↦ λ is f. let same : x ≡ y = cc in ap p (sym same) ∙ is
        | false ↦ λ is f. found_passes p xs y f
      ] refl e

  found_meets : (q p : X → Bool) (xs : List X) (y : X) → list_all q xs ≡ true → find p xs ≡ Some y → q y ≡ true
  found_meets q p [] y all e = cc
  found_meets q p (x ∷ xs) y all e =
      elim (p x) as (λ b. cond b (Some x) (find p xs) ≡ Some y → q y ≡ true) [
        | true ↦ λ f. let same : x ≡ y = cc in ap q (sym same) ∙ first_true (q x) (list_all q xs) all
        | false ↦ λ f. found_meets q p xs y (second_true (q x) (list_all q xs) all) f
      ] e

module _ {X : Type 0} (m : X → Bool) where
  fewer : (e : X → Bool) (xs : List X) → count_by (λ x. m x && e x) xs ≤ count_by m xs
  fewer e [] = omega arith
  fewer e (x ∷ xs) =
      elim (m x) as (λ b. m x ≡ b → count_by (λ x. m x && e x) (x ∷ xs) ≤ count_by m (x ∷ xs)) [
        | true ↦ λ is. elim (e x) as (λ b. e x ≡ b → count_by (λ x. m x && e x) (x ∷ xs) ≤ count_by m (x ∷ xs)) [
          | true ↦ λ has. omega (arith, fewer e xs, counted m x xs is, counted (λ x. m x && e x) x xs (λ j. is j && has j))
          | false ↦ λ has. omega (arith, fewer e xs, counted m x xs is, passed (λ x. m x && e x) x xs (λ j. is j && has j))
        ] refl
        | false ↦ λ is. omega (arith, fewer e xs, passed m x xs is, passed (λ x. m x && e x) x xs (ap (λ b. b && e x) is))
      ] refl

-- of an equal, a lower and an upper bound it is one alone
abbrev Kind : Bool → Bool → Bool → Type 0
Kind e lo hi = (e ≡ true) ⊎ (((lo ≡ true) × (hi ≡ false)) ⊎ ((lo ≡ false) × (hi ≡ true)))

module _ {X : Type 0} (m h : X → Bool) where
  free : (xs : List X) → count_by m xs ≡ 0 → list_all (λ x. not (m x) || h x) xs ≡ true
  free [] none = refl
  free (x ∷ xs) none =
      elim (m x) as (λ b. m x ≡ b → ((not b || h x) && list_all (λ x. not (m x) || h x) xs) ≡ true) [
        | true ↦ λ is. absurd (omega (arith, counted m x xs is))
        | false ↦ λ is. free xs (sym (passed m x xs is) ∙ none)
      ] refl

  -- where one matters alone, it decides
  fixed : (e : X → Bool) (xs : List X) → count_by (λ x. m x && e x) xs ≡ 1 → count_by m xs ≡ 1
      → list_all (λ x. not (m x) || h x) xs ≡ option_map_or h (find (λ x. m x && e x) xs) true
  fixed e [] one all = absurd (omega arith)
  fixed e (x ∷ xs) one all =
      elim (m x) as (λ b. m x ≡ b → ((not b || h x) && list_all (λ x. not (m x) || h x) xs) ≡ option_map_or h (cond (b && e x) (Some x) (find (λ x. m x && e x) xs)) true) [
        | true ↦ λ is. elim (e x) as (λ b. e x ≡ b → (h x && list_all (λ x. not (m x) || h x) xs) ≡ option_map_or h (cond b (Some x) (find (λ x. m x && e x) xs)) true) [
          | true ↦ λ has. let rest : count_by m xs ≡ 0 = omega (arith, counted m x xs is) in ap (λ b. h x && b) (free xs rest) ∙ and_true (h x)
          | false ↦ λ has. absurd (omega (arith, fewer m e xs, counted m x xs is, passed (λ x. m x && e x) x xs (λ j. is j && has j)))
        ] refl
        | false ↦ λ is. fixed e xs (sym (passed (λ x. m x && e x) x xs (ap (λ b. b && e x) is)) ∙ one) (sym (passed m x xs is) ∙ all)
      ] refl

  -- where at most one bounds from below, and at most one from above, these two decide
  module _ (e lo hi : X → Bool) (kinds : (x : X) → Kind (e x) (lo x) (hi x)) where
    abbrev told : (X → Bool) → List X → Bool
    told s xs = option_map_or h (find (λ x. m x && s x) xs) true

    untold : (s : X → Bool) (xs : List X) → count_by (λ x. m x && s x) xs ≡ 0 → told s xs ≡ true
    untold s xs none = ap (λ o. option_map_or h o true) (none_found (λ x. m x && s x) xs none)

    first_told : (s : X → Bool) (x : X) (xs : List X) → m x ≡ true → s x ≡ true → told s (x ∷ xs) ≡ h x
    first_told s x xs is has = λ j. option_map_or h (cond (is j && has j) (Some x) (find (λ x. m x && s x) xs)) true

    later_told : (s : X → Bool) (x : X) (xs : List X) → (m x && s x) ≡ false → told s (x ∷ xs) ≡ told s xs
    later_told s x xs not_it = ap (λ b. option_map_or h (cond b (Some x) (find (λ x. m x && s x) xs)) true) not_it

    abbrev AtMostOne : List X → Type 0
    AtMostOne xs = (count_by (λ x. m x && e x) xs ≡ 0) × (count_by (λ x. m x && lo x) xs ≤ 1) × (count_by (λ x. m x && hi x) xs ≤ 1)

    abbrev Decided : List X → Type 0
    Decided xs = list_all (λ x. not (m x) || h x) xs ≡ (told lo xs && told hi xs)

    here : (x : X) (xs : List X) → AtMostOne (x ∷ xs) → Decided xs → m x ≡ true → Kind (e x) (lo x) (hi x)
        → (h x && list_all (λ x. not (m x) || h x) xs) ≡ (told lo (x ∷ xs) && told hi (x ∷ xs))
    here x xs few rest is (inl equal) =
        let none : count_by (λ x. m x && e x) (x ∷ xs) ≡ 0 = few.0 in absurd (omega (arith, counted (λ x. m x && e x) x xs (λ j. is j && equal j)))
    here x xs few rest is (inr (inl k)) =
        let most : count_by (λ x. m x && lo x) (x ∷ xs) ≤ 1 = few.1 in
        let none : count_by (λ x. m x && lo x) xs ≡ 0 = omega (arith, counted (λ x. m x && lo x) x xs (λ j. is j && k.0 j)) in
        ap (λ b. h x && b) (rest ∙ ap (λ b. b && told hi xs) (untold lo xs none))
        ∙ sym (λ j. first_told lo x xs is k.0 j && later_told hi x xs (λ i. is i && k.1 i) j)
    here x xs few rest is (inr (inr k)) =
        let most : count_by (λ x. m x && hi x) (x ∷ xs) ≤ 1 = few.2 in
        let none : count_by (λ x. m x && hi x) xs ≡ 0 = omega (arith, counted (λ x. m x && hi x) x xs (λ j. is j && k.1 j)) in
        ap (λ b. h x && b) (rest ∙ ap (λ b. told lo xs && b) (untold hi xs none) ∙ and_true (told lo xs)) ∙ and_swap (h x) (told lo xs)
        ∙ sym (λ j. later_told lo x xs (λ i. is i && k.0 i) j && first_told hi x xs is k.1 j)

    bounded : (xs : List X) → AtMostOne xs → Decided xs
    bounded [] few = refl
    bounded (x ∷ xs) few =
        let no_equal : count_by (λ x. m x && e x) (x ∷ xs) ≡ 0 = few.0 in
        let few_lo : count_by (λ x. m x && lo x) (x ∷ xs) ≤ 1 = few.1 in
        let few_hi : count_by (λ x. m x && hi x) (x ∷ xs) ≤ 1 = few.2 in
        let rest : Decided xs = bounded xs (omega (arith, shrinks (λ x. m x && e x) x xs), omega (arith, shrinks (λ x. m x && lo x) x xs), omega (arith, shrinks (λ x. m x && hi x) x xs)) in
        elim (m x) as (λ b. m x ≡ b → ((not b || h x) && list_all (λ x. not (m x) || h x) xs) ≡ (told lo (x ∷ xs) && told hi (x ∷ xs))) [
          | true ↦ λ is. here x xs few rest is (kinds x)
          | false ↦ λ is. rest ∙ sym (λ j. later_told lo x xs (ap (λ b. b && lo x) is) j && later_told hi x xs (ap (λ b. b && hi x) is) j)
        ] refl

-- ---- one column

-- what a cut of one value more says of a row of one value more
abbrev judge : Bool → Ordering → Bool
judge after r = if after then is_gt r else not (is_lt r)

inside_then : (t : Ordering) (p q : Bool) (r s : Ordering)
    → (judge p (ordering_then t r) && not (judge q (ordering_then t s))) ≡ (is_eq t && (judge p r && not (judge q s)))
inside_then Equal p q r s = refl
inside_then Less false q r s = refl
inside_then Less true q r s = refl
inside_then Greater false false r s = refl
inside_then Greater false true r s = refl
inside_then Greater true false r s = refl
inside_then Greater true true r s = refl

abbrev in_cuts : List Ordered → List (List ℕ) → Column → Option Relation → Option Relation → List (List ℕ) → Bool
in_cuts os prefix c lo hi row = is_inside (cut_by os prefix c false lo) (cut_by os prefix c true hi) row

module _ (o : Ordered) (os : List Ordered) (v b : List ℕ) (row prefix : List (List ℕ)) where
  whole_more : is_inside (cut (o ∷ os) (b ∷ prefix) false) (cut (o ∷ os) (b ∷ prefix) true) (v ∷ row)
      ≡ (is_eq (column_cmp o v b) && is_inside (cut os prefix false) (cut os prefix true) row)
  whole_more = inside_then (column_cmp o v b) false true _ _

  cuts_more : (c : Column) (lo hi : Option Relation) → in_cuts (o ∷ os) (b ∷ prefix) c lo hi (v ∷ row) ≡ (is_eq (column_cmp o v b) && in_cuts os prefix c lo hi row)
  cuts_more c None None = inside_then (column_cmp o v b) false true _ _
  cuts_more c None (Some r) = inside_then (column_cmp o v b) false (not (is_strict r.operator)) _ _
  cuts_more c (Some r) None = inside_then (column_cmp o v b) (is_strict r.operator) true _ _
  cuts_more c (Some r) (Some s) = inside_then (column_cmp o v b) (is_strict r.operator) (not (is_strict s.operator)) _ _

-- how the column orders rows
abbrev pub order_by : Column → Ordered
order_by c = record { tag = c.tag; descending = is_descending c.kind }

same_tie : (tag : TypeTag) (descending : Bool) (v b : List ℕ) → is_eq (column_cmp (record { tag = tag; descending = descending }) v b) ≡ is_eq (value_cmp tag v b)
same_tie tag false v b = refl
same_tie tag true v b = ap is_eq ((value_orders tag).total.antisymm b v) ∙ back (value_cmp tag v b)
  where
    back : (r : Ordering) → is_eq (ordering_reverse r) ≡ is_eq r
    back Less = refl
    back Equal = refl
    back Greater = refl

begins : (descending : Bool) (o : Operator) (r : Ordering) → is_at_begin descending o ≡ true
    → judge (is_strict o) (ordering_then (if descending then ordering_reverse r else r) Equal) ≡ operator_holds o r
unfolding is_at_begin is_lower is_upper is_strict
begins false operator.Greater Less e = refl
begins false operator.Greater Equal e = refl
begins false operator.Greater Greater e = refl
begins false operator.AtLeast Less e = refl
begins false operator.AtLeast Equal e = refl
begins false operator.AtLeast Greater e = refl
begins true operator.Less Less e = refl
begins true operator.Less Equal e = refl
begins true operator.Less Greater e = refl
begins true operator.AtMost Less e = refl
begins true operator.AtMost Equal e = refl
begins true operator.AtMost Greater e = refl
begins false operator.Equal r e = cc
begins false operator.Less r e = cc
begins false operator.AtMost r e = cc
begins true operator.Equal r e = cc
begins true operator.Greater r e = cc
begins true operator.AtLeast r e = cc

ends : (descending : Bool) (o : Operator) (r : Ordering) → is_at_end descending o ≡ true
    → not (judge (not (is_strict o)) (ordering_then (if descending then ordering_reverse r else r) Equal)) ≡ operator_holds o r
unfolding is_at_end is_lower is_upper is_strict
ends true operator.Greater Less e = refl
ends true operator.Greater Equal e = refl
ends true operator.Greater Greater e = refl
ends true operator.AtLeast Less e = refl
ends true operator.AtLeast Equal e = refl
ends true operator.AtLeast Greater e = refl
ends false operator.Less Less e = refl
ends false operator.Less Equal e = refl
ends false operator.Less Greater e = refl
ends false operator.AtMost Less e = refl
ends false operator.AtMost Equal e = refl
ends false operator.AtMost Greater e = refl
ends true operator.Equal r e = cc
ends true operator.Less r e = cc
ends true operator.AtMost r e = cc
ends false operator.Equal r e = cc
ends false operator.Greater r e = cc
ends false operator.AtLeast r e = cc

turned : (tag : TypeTag) (descending : Bool) (v b : List ℕ)
    → column_cmp (record { tag = tag; descending = descending }) v b ≡ (if descending then ordering_reverse (value_cmp tag v b) else value_cmp tag v b)
turned tag false v b = refl
turned tag true v b = (value_orders tag).total.antisymm b v

-- the sides of an operator
sides : (descending : Bool) (o : Operator) → Kind (is_equal o) (is_at_begin descending o) (is_at_end descending o)
unfolding is_equal is_at_begin is_at_end is_lower is_upper
sides descending operator.Equal = inl refl
sides false operator.Less = inr (inr (refl, refl))
sides false operator.AtMost = inr (inr (refl, refl))
sides false operator.Greater = inr (inl (refl, refl))
sides false operator.AtLeast = inr (inl (refl, refl))
sides true operator.Less = inr (inl (refl, refl))
sides true operator.AtMost = inr (inl (refl, refl))
sides true operator.Greater = inr (inr (refl, refl))
sides true operator.AtLeast = inr (inr (refl, refl))

module _ (rs : List Relation) (c : Column) where
  abbrev pub named : Relation → Bool
  named r = bytes_eq r.column c.name

  abbrev pub given : Relation → Bool
  given r = not (named r) || is_some (term_value c.tag r.value)

  -- ---- a column with a bound

  module _ (v : List ℕ) (os : List Ordered) (row : List (List ℕ)) where
    low : (r : Relation) (x : Option (List ℕ)) → x ≡ term_value c.tag r.value → is_some x ≡ true → is_at_begin (is_descending c.kind) r.operator ≡ true
        → is_past (record { prefix = option_to_list x; after = is_strict r.operator; order = order_by c ∷ os }) (v ∷ row)
        ≡ option_map_or (λ b. operator_holds r.operator (value_cmp c.tag v b)) x false
    low r None is some side = cc
    low r (Some b) is some side =
        ap (λ t. judge (is_strict r.operator) (ordering_then t Equal)) (turned c.tag (is_descending c.kind) v b)
        ∙ begins (is_descending c.kind) r.operator (value_cmp c.tag v b) side

    high : (r : Relation) (x : Option (List ℕ)) → x ≡ term_value c.tag r.value → is_some x ≡ true → is_at_end (is_descending c.kind) r.operator ≡ true
        → not (is_past (record { prefix = option_to_list x; after = not (is_strict r.operator); order = order_by c ∷ os }) (v ∷ row))
        ≡ option_map_or (λ b. operator_holds r.operator (value_cmp c.tag v b)) x false
    high r None is some side = cc
    high r (Some b) is some side =
        ap (λ t. not (judge (not (is_strict r.operator)) (ordering_then t Equal))) (turned c.tag (is_descending c.kind) v b)
        ∙ ends (is_descending c.kind) r.operator (value_cmp c.tag v b) side

    has_value : (s : Relation → Bool) (r : Relation) → list_all given rs ≡ true → find (λ r. named r && s r) rs ≡ Some r → is_some (term_value c.tag r.value) ≡ true
    has_value s r all f =
        let its : named r ≡ true = first_true (named r) (s r) (found_passes (λ r. named r && s r) rs r f) in
        ap (λ b. not b || is_some (term_value c.tag r.value)) (sym its) ∙ found_meets given (λ r. named r && s r) rs r all f

    low_bound : (f : Option Relation) → list_all given rs ≡ true → find (λ r. named r && is_at_begin (is_descending c.kind) r.operator) rs ≡ f
        → is_past (cut_by (order_by c ∷ os) [] c false f) (v ∷ row) ≡ option_map_or (relation_holds c v) f true
    low_bound None all f = refl
    low_bound (Some r) all f =
        low r (term_value c.tag r.value) refl (has_value (λ r. is_at_begin (is_descending c.kind) r.operator) r all f)
        (second_true (named r) _ (found_passes (λ r. named r && is_at_begin (is_descending c.kind) r.operator) rs r f))

    high_bound : (f : Option Relation) → list_all given rs ≡ true → find (λ r. named r && is_at_end (is_descending c.kind) r.operator) rs ≡ f
        → not (is_past (cut_by (order_by c ∷ os) [] c true f) (v ∷ row)) ≡ option_map_or (relation_holds c v) f true
    high_bound None all f = refl
    high_bound (Some r) all f =
        high r (term_value c.tag r.value) refl (has_value (λ r. is_at_end (is_descending c.kind) r.operator) r all f)
        (second_true (named r) _ (found_passes (λ r. named r && is_at_end (is_descending c.kind) r.operator) rs r f))

  -- ---- a column with one equal

  same_operator : (o : Operator) (t : Ordering) → is_equal o ≡ true → operator_holds o t ≡ is_eq t
  unfolding is_equal
  same_operator operator.Equal t e = refl
  same_operator operator.Less t e = cc
  same_operator operator.AtMost t e = cc
  same_operator operator.Greater t e = cc
  same_operator operator.AtLeast t e = cc

  module _ (v : List ℕ) where
    equal_holds : (r : Relation) (x : Option (List ℕ)) → is_some x ≡ true → is_equal r.operator ≡ true
        → (b : List ℕ) × (x ≡ Some b) × (option_map_or (λ b. operator_holds r.operator (value_cmp c.tag v b)) x false ≡ is_eq (value_cmp c.tag v b))
    equal_holds r None is equal = cc
    equal_holds r (Some b) is equal = (b, refl, same_operator r.operator (value_cmp c.tag v b) equal)

    pub fixed_column : (f : Option Relation) → list_all given rs ≡ true → is_fixed rs c ≡ true → find (λ r. named r && is_equal r.operator) rs ≡ f
        → (b : List ℕ) × (value_of_term c (option_map (λ r. r.value) f) ≡ Some b) × (column_meets rs c v ≡ is_eq (value_cmp c.tag v b))
    unfolding is_fixed count_on count_all
    fixed_column None all is f =
        let one : count_by (λ r. named r && is_equal r.operator) rs ≡ 1 = eqb-true _ _ (first_true _ _ is) in
        let none : count_by (λ r. named r && is_equal r.operator) rs ≡ 0 = none_counted (λ r. named r && is_equal r.operator) rs f in
        absurd (omega arith)
    fixed_column (Some r) all is f =
        let its : (b : List ℕ) × (term_value c.tag r.value ≡ Some b) × (relation_holds c v r ≡ is_eq (value_cmp c.tag v b)) =
        equal_holds r (term_value c.tag r.value) (has_value v [] [] (λ r. is_equal r.operator) r all f) (second_true (named r) _ (found_passes (λ r. named r && is_equal r.operator) rs r f)) in (
          its.0,
          its.1,
          fixed named (relation_holds c v) (λ r. is_equal r.operator) rs (eqb-true _ _ (first_true _ _ is)) (eqb-true _ _ (second_true _ _ is))
              ∙ ap (λ o. option_map_or (relation_holds c v) o true) f ∙ its.2,
        )

  -- by bounds alone it has no value
  no_value : is_bounded rs c ≡ true → value_in (term_in_where rs) c ≡ None
  unfolding is_bounded count_on term_in_where
  no_value is =
      ap (λ o. value_of_term c (option_map (λ r. r.value) o))
      (none_found (λ r. named r && is_equal r.operator) rs (eqb-true _ _ (first_true _ _ is)))

  at_most : (n : ℕ) → nat_le n 1 ≡ true → n ≤ 1
  at_most n e = grind (arith, nat_tests)

  few : (descending : Bool) → is_bounded rs c ≡ true
      → (count_by (λ r. named r && is_equal r.operator) rs ≡ 0)
      × (count_by (λ r. named r && is_at_begin descending r.operator) rs ≤ 1) × (count_by (λ r. named r && is_at_end descending r.operator) rs ≤ 1)
  unfolding is_bounded count_on is_at_begin is_at_end
  few false is = (eqb-true _ _ (first_true _ _ is), at_most _ (first_true _ _ (second_true _ _ is)), at_most _ (second_true _ _ (second_true _ _ is)))
  few true is = (eqb-true _ _ (first_true _ _ is), at_most _ (second_true _ _ (second_true _ _ is)), at_most _ (first_true _ _ (second_true _ _ is)))

  bounded_column : (v : List ℕ) (os : List Ordered) (row : List (List ℕ)) → list_all given rs ≡ true → is_bounded rs c ≡ true
      → in_cuts (order_by c ∷ os) [] c (find (λ r. named r && is_at_begin (is_descending c.kind) r.operator) rs)
      (find (λ r. named r && is_at_end (is_descending c.kind) r.operator) rs) (v ∷ row) ≡ column_meets rs c v
  bounded_column v os row all is =
      (λ j. low_bound v os row _ all refl j && high_bound v os row _ all refl j)
      ∙ sym (bounded named (relation_holds c v) (λ r. is_equal r.operator) (λ r. is_at_begin (is_descending c.kind) r.operator) (λ r. is_at_end (is_descending c.kind) r.operator)
      (λ r. sides (is_descending c.kind) r.operator) rs (few (is_descending c.kind) is))

-- ---- the columns, one after another

abbrev in_slice : List Ordered → List Relation → List (List ℕ) → Option Column → List (List ℕ) → Bool
in_slice os rs prefix missing row = is_inside (slice_with os rs prefix missing).lo (slice_with os rs prefix missing).hi row

slice_more : (rs : List Relation) (o : Ordered) (os : List Ordered) (v b : List ℕ) (row prefix : List (List ℕ)) (c : Option Column)
    → in_slice (o ∷ os) rs (b ∷ prefix) c (v ∷ row) ≡ (is_eq (column_cmp o v b) && in_slice os rs prefix c row)
unfolding cut_at
slice_more rs o os v b row prefix None = whole_more o os v b row prefix
slice_more rs o os v b row prefix (Some c) = cuts_more o os v b row prefix c _ _

free_row : (rs : List Relation) (cs : List Column) (row : List (List ℕ)) → list_all (is_free rs) cs ≡ true → length row ≡ length cs → row_meets rs cs row ≡ true
unfolding is_free count_all
free_row rs [] row all long = refl
free_row rs (c ∷ cs) [] all long = absurd (omega arith)
free_row rs (c ∷ cs) (v ∷ row) all long =
    λ j. free (λ r. bytes_eq r.column c.name) (relation_holds c v) rs (eqb-true _ _ (first_true _ _ all)) j && free_row rs cs row (second_true _ _ all) (omega arith) j

module _ (rs : List Relation) (c : Column) (os : List Ordered) (v : List ℕ) (row prefix : List (List ℕ)) (missing : Option Column) where
  -- the slice, from what the first column is given
  abbrev by_value : Option (List ℕ) → Bool
  by_value x = in_slice (order_by c ∷ os) rs (in_front x prefix) (cond (is_none x) (Some c) missing) (v ∷ row)

  fixed_step : (b : List ℕ) (rest : Bool) (x : Option (List ℕ)) → x ≡ Some b → column_meets rs c v ≡ is_eq (value_cmp c.tag v b) → in_slice os rs prefix missing row ≡ rest
      → by_value x ≡ (column_meets rs c v && rest)
  fixed_step b rest x e meets others =
      ap by_value e ∙ slice_more rs (order_by c) os v b row prefix missing
      ∙ (λ j. (same_tie c.tag (is_descending c.kind) v b ∙ sym meets) j && others j)

  bounded_step : (rest : Bool) (x : Option (List ℕ)) → x ≡ None → list_all (given rs c) rs ≡ true → is_bounded rs c ≡ true → rest ≡ true → by_value x ≡ (column_meets rs c v && rest)
  unfolding cut_at
  bounded_step rest x e all is free =
      ap by_value e ∙ bounded_column rs c v os row all is ∙ sym (and_true (column_meets rs c v)) ∙ ap (λ b. column_meets rs c v && b) (sym free)

module _ (rs : List Relation) where
  by_columns : (cs : List Column) (row : List (List ℕ)) → makes_slice rs cs ≡ true → compares_values rs cs ≡ true → length row ≡ length cs
      → in_slice (map order_by cs) rs (prefix_values (term_in_where rs) cs) (first_missing (term_in_where rs) cs) row ≡ row_meets rs cs row
  unfolding makes_slice prefix_values first_missing is_missing term_in_where
  by_columns [] [] makes compares long = refl
  by_columns [] (v ∷ row) makes compares long = absurd (omega arith)
  by_columns (c ∷ cs) [] makes compares long = absurd (omega arith)
  by_columns (c ∷ cs) (v ∷ row) makes compares long =
      let all : list_all (given rs c) rs ≡ true = first_true _ _ compares in
      elim (is_fixed rs c) as (λ b. is_fixed rs c ≡ b → cond b (makes_slice rs cs) (is_bounded rs c && list_all (is_free rs) cs) ≡ true
      → by_value rs c (map order_by cs) v row (prefix_values (term_in_where rs) cs) (first_missing (term_in_where rs) cs) (value_in (term_in_where rs) c) ≡ (column_meets rs c v && row_meets rs cs row)) [
        | true ↦ λ is m.
            let its = fixed_column rs c v (find (λ r. bytes_eq r.column c.name && is_equal r.operator) rs) all is refl in
            fixed_step rs c (map order_by cs) v row (prefix_values (term_in_where rs) cs) (first_missing (term_in_where rs) cs) its.0 (row_meets rs cs row) (value_in (term_in_where rs) c) its.1 its.2
            (by_columns cs row m (second_true _ _ compares) (omega arith))
        | false ↦ λ is m.
            bounded_step rs c (map order_by cs) v row (prefix_values (term_in_where rs) cs) (first_missing (term_in_where rs) cs) (row_meets rs cs row) (value_in (term_in_where rs) c)
            (no_value rs c (first_true _ _ m)) all (first_true _ _ m) (free_row rs cs row (second_true _ _ m) (omega arith))
      ] refl makes

pub orders : (cs : List Column) → clustering_order cs ≡ map order_by (clustering_columns cs)
unfolding clustering_order
orders [] = refl
orders (c ∷ cs) =
    elim (is_clustering c.kind) as (λ b. cons_option (then_some b (order_by c)) (filter_map ordered_by cs) ≡ map order_by (cond b (c ∷ clustering_columns cs) (clustering_columns cs))) [
      | true ↦ ap (λ os. order_by c ∷ os) (orders cs)
      | false ↦ orders cs
    ]

pub slice_law : SliceLaw
unfolding slice_of
slice_law cs rs row makes compares long =
    ap (λ os. in_slice os rs (prefix_values (term_in_where rs) (clustering_columns cs)) (first_missing (term_in_where rs) (clustering_columns cs)) row) (orders cs)
    ∙ by_columns rs (clustering_columns cs) row makes compares long
