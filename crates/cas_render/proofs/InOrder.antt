-- What is put in order is sorted, has the elements that there were, and is the one list of which that is so.
use Rattle.std.proofs.Common.{◌≡◌, ◌<◌, ◌+◌, ℕ, zero, suc, Bool, true, false, cond, List, [], ◌∷◌, get_or, length, refl, sym, ap, ◌∙◌, subst, arith}
use Rattle.std.specs.Cmp.{IsTotalOrder}
use Rattle.std.specs.List.{AllByRecursion, count_by, flat_map}
use Rattle.std.specs.List.Sorted.{IsPermutation, IsSorted}
use Rattle.std.specs.Ordering.{is_eq, is_lt, nat_cmp, ordering_reverse, ordering_then}
use Rattle.std.specs.declared.cmp.Ordering.{Ordering}
use Rattle.std.specs.declared.cmp.Ordering.TheVariants.{Less, Equal, Greater}
use Rattle.std.proofs.lemmas.Bool.{true≢false}
use Rattle.std.proofs.lemmas.Cmp.{nat_cmp_total, nat_list_cmp_total, on_total, then_total, tied_itself}
use Rattle.std.proofs.lemmas.List.Sorted.{IsPermutation-cons, IsPermutation-middle, IsPermutation-refl, IsPermutation-trans, ranks_by, sum_by-IsPermutation}
use Rattle.std.proofs.lemmas.List.Sums.{sum_by-cons}
use Rattle.std.proofs.lemmas.Map.Lookups.{CmpEqualImpliesEq, exact_bytes, exact_pairs, exact_unsigned}
use Rattle.cas_types.specs.Values.{bytes_cmp}
use Rattle.cas_render.specs.Laws.{NumbersAscend, StatusAscends}
use Rattle.cas_render.specs.Listing.{in_order, in_shards, listed_cmp, placed, status_of}
use Rattle.cas_render.specs.declared.reply.Listed.{Listed}

abbrev one_if : Bool → ℕ
one_if b = cond b 1 0

module _ {A : Type 0} {R : A → A → Ordering} (o : IsTotalOrder R) where
  -- none of these is below it
  abbrev Low : A → List A → Type 0
  Low x ys = AllByRecursion (λ y. is_lt (R y x) ≡ false) ys

  abbrev Up : List A → Type 0
  Up [] = Unit {0}
  Up (x ∷ xs) = Low x xs × Up xs

  chained : (x y z : A) → is_lt (R x y) ≡ false → is_lt (R y z) ≡ false → is_lt (R x z) ≡ false
  chained x y z = (ranks_by o (λ (k : A). k)).chain x y z

  one_way : (x y : A) → is_lt (R x y) ≡ true → is_lt (R y x) ≡ false
  one_way x y = (ranks_by o (λ (k : A). k)).one_way x y

  low_on : (x y : A) (zs : List A) → is_lt (R y x) ≡ false → Low y zs → Low x zs
  low_on x y [] below low = tt
  low_on x y (z ∷ zs) below low = (chained z y x low.0 below, low_on x y zs below low.1)

  -- ---- in order

  low_placed : (z x : A) (ys : List A) → is_lt (R x z) ≡ false → Low z ys → Low z (placed R x ys)
  low_placed z x [] below low = (below, tt)
  low_placed z x (y ∷ ys) below low =
      elim (is_lt (R y x)) as (λ b. Low z (cond b (y ∷ placed R x ys) (x ∷ y ∷ ys))) [
        | true ↦ (low.0, low_placed z x ys below low.1)
        | false ↦ (below, low)
      ]

  up_placed : (x : A) (ys : List A) → Up ys → Up (placed R x ys)
  up_placed x [] up = (tt, tt)
  up_placed x (y ∷ ys) up =
      elim (is_lt (R y x)) as (λ b. is_lt (R y x) ≡ b → Up (cond b (y ∷ placed R x ys) (x ∷ y ∷ ys))) [
        | true ↦ λ e. (low_placed y x ys (one_way y x e) up.0, up_placed x ys up.1)
        | false ↦ λ e. ((e, low_on x y ys e up.0), up)
      ] refl

  up_order : (xs : List A) → Up (in_order R xs)
  up_order [] = tt
  up_order (x ∷ xs) = up_placed x (in_order R xs) (up_order xs)

  same_placed : (x : A) (ys : List A) → IsPermutation (x ∷ ys) (placed R x ys)
  same_placed x [] = IsPermutation-refl (x ∷ [])
  same_placed x (y ∷ ys) =
      elim (is_lt (R y x)) as (λ b. IsPermutation (x ∷ y ∷ ys) (cond b (y ∷ placed R x ys) (x ∷ y ∷ ys))) [
        | true ↦ IsPermutation-trans (x ∷ y ∷ ys) (y ∷ x ∷ ys) (y ∷ placed R x ys) (IsPermutation-middle (x ∷ []) y ys)
            (IsPermutation-cons y (x ∷ ys) (placed R x ys) (same_placed x ys))
        | false ↦ IsPermutation-refl (x ∷ y ∷ ys)
      ]

  pub same_order : (xs : List A) → IsPermutation xs (in_order R xs)
  same_order [] = IsPermutation-refl []
  same_order (x ∷ xs) =
      IsPermutation-trans (x ∷ xs) (x ∷ in_order R xs) (placed R x (in_order R xs)) (IsPermutation-cons x xs (in_order R xs) (same_order xs))
      (same_placed x (in_order R xs))

  -- ---- by places

  at_next : (x : A) (xs : List A) (k : ℕ) (d : A) → get_or (x ∷ xs) (suc k + 1) d ≡ get_or xs (k + 1) d
  at_next x xs k d = ap (λ n. get_or (x ∷ xs) n d) (let e : suc k + 1 ≡ suc (k + 1) = omega arith in e)

  up_from : (xs : List A) → ((k : ℕ) (d : A) → k + 1 < length xs → is_lt (R (get_or xs (k + 1) d) (get_or xs k d)) ≡ false) → Up xs
  up_from [] sorted = tt
  up_from (x ∷ []) sorted = (tt, tt)
  up_from (x ∷ y ∷ xs) sorted =
      let rest : Up (y ∷ xs) =
      up_from (y ∷ xs) (λ k d within. ap (λ v. is_lt (R v (get_or (y ∷ xs) k d))) (sym (at_next x (y ∷ xs) k d)) ∙ sorted (suc k) d (omega arith)) in
      let first : is_lt (R y x) ≡ false = sorted 0 x (omega arith) in
      ((first, low_on x y xs first rest.0), rest)

  by_places : (xs : List A) → Up xs → (k : ℕ) (d : A) → k + 1 < length xs → is_lt (R (get_or xs (k + 1) d) (get_or xs k d)) ≡ false
  by_places [] up k d within = absurd (omega arith)
  by_places (x ∷ []) up k d within = absurd (omega arith)
  by_places (x ∷ y ∷ xs) up zero d within = up.0.0
  by_places (x ∷ y ∷ xs) up (suc k) d within =
      ap (λ v. is_lt (R v (get_or (y ∷ xs) k d))) (at_next x (y ∷ xs) k d) ∙ by_places (y ∷ xs) up.1 k d (omega arith)

  pub sorted_order : (xs : List A) → IsSorted R (in_order R xs)
  sorted_order xs k d low within = by_places (in_order R xs) (up_order xs) k d within

  -- ---- the one list

  found : (p : A → Bool) (P : A → Type 0) (xs : List A) → 0 < count_by p xs → AllByRecursion P xs → (z : A) × (p z ≡ true) × P z
  found p P [] some all = absurd (omega arith)
  found p P (x ∷ xs) some all =
      elim (p x) as (λ b. p x ≡ b → (z : A) × (p z ≡ true) × P z) [
        | true ↦ λ e. (x, e, all.0)
        | false ↦ λ e.
            let one : one_if (p x) ≡ 0 = ap one_if e in
            found p P xs (omega (arith, some, one, sum_by-cons (λ y. cond (p y) 1 0) x xs)) all.1
      ] refl

  module _ (exact : CmpEqualImpliesEq R) where
    -- a first element isn't below that of a list that it is among
    not_below : (x y : A) (ys : List A) → 0 < count_by (λ z. is_eq (R x z)) (y ∷ ys) → Low y ys → is_lt (R x y) ≡ false
    not_below x y ys some low =
        let one = found (λ z. is_eq (R x z)) (λ z. is_lt (R z y) ≡ false) (y ∷ ys) some (ap is_lt (tied_itself o y), low) in
        subst (λ z. is_lt (R z y) ≡ false) (sym (exact x one.0 (tie (R x one.0) one.1))) one.2
      where
        tie : (r : Ordering) → is_eq r ≡ true → r ≡ Equal
        tie Less e = absurd (true≢false (sym e))
        tie Equal e = refl
        tie Greater e = absurd (true≢false (sym e))

    neither : (x y : A) → is_lt (R x y) ≡ false → is_lt (R y x) ≡ false → x ≡ y
    neither x y e f = exact x y (equal (R x y) (R y x) (o.antisymm x y) e f)
      where
        equal : (r s : Ordering) → r ≡ ordering_reverse s → is_lt r ≡ false → is_lt s ≡ false → r ≡ Equal
        equal Less s t e f = absurd (true≢false e)
        equal Equal s t e f = refl
        equal Greater Less t e f = absurd (true≢false f)
        equal Greater Equal t e f = t
        equal Greater Greater t e f = absurd (true≢false (sym (ap is_lt t)))

    counted : (p : A → Bool) (x : A) (xs : List A) → count_by p (x ∷ xs) ≡ cond (p x) 1 0 + count_by p xs
    counted p x xs = sum_by-cons (λ y. cond (p y) 1 0) x xs

    itself : (x : A) (xs : List A) → 0 < count_by (λ z. is_eq (R x z)) (x ∷ xs)
    itself x xs =
        let one : one_if (is_eq (R x x)) ≡ 1 = ap (λ r. one_if (is_eq r)) (tied_itself o x) in
        omega (arith, one, counted (λ z. is_eq (R x z)) x xs)

    only_one : (xs ys : List A) → Up xs → Up ys → ((p : A → Bool) → count_by p xs ≡ count_by p ys) → xs ≡ ys
    only_one [] [] up high same = refl
    only_one [] (y ∷ ys) up high same = absurd (omega (arith, same (λ _. true), counted (λ _. true) y ys))
    only_one (x ∷ xs) [] up high same = absurd (omega (arith, same (λ _. true), counted (λ _. true) x xs))
    only_one (x ∷ xs) (y ∷ ys) up high same =
        let below = not_below x y ys (subst (λ n. 0 < n) (same (λ z. is_eq (R x z))) (itself x xs)) high.0 in
        let above = not_below y x xs (subst (λ n. 0 < n) (sym (same (λ z. is_eq (R y z)))) (itself y ys)) up.0 in
        let first : x ≡ y = neither x y below above in
        let rest : xs ≡ ys =
        only_one xs ys up.1 high.1 (λ p. let one : one_if (p x) ≡ one_if (p y) = ap (λ z. one_if (p z)) first in omega (arith, one, same p, counted p x xs, counted p y ys)) in
        λ j. first j ∷ rest j

    pub order_is : (xs ys : List A) → IsPermutation xs ys → IsSorted R ys → ys ≡ in_order R xs
    order_is xs ys same sorted =
        only_one ys (in_order R xs) (up_from ys (λ k d within. sorted k d (omega arith) within)) (up_order xs)
        (λ p. sum_by-IsPermutation (λ z. cond (p z) 1 0) xs ys same ∙ sym (sum_by-IsPermutation (λ z. cond (p z) 1 0) xs (in_order R xs) (same_order xs)))

-- ---- numbers, and what is listed

pub numbers_are : (xs ys : List ℕ) → IsPermutation xs ys → IsSorted nat_cmp ys → ys ≡ in_order nat_cmp xs
numbers_are xs ys same sorted = order_is nat_cmp_total exact_unsigned xs ys same sorted

pub listed_total : IsTotalOrder listed_cmp
listed_total = then_total (on_total (λ (l : Listed). l.table) nat_list_cmp_total) (then_total (on_total (λ (l : Listed). l.shard) nat_cmp_total) (on_total (λ (l : Listed). l.files) nat_list_cmp_total))

listed_exact : CmpEqualImpliesEq listed_cmp
listed_exact a b e =
    ap (λ (p : List ℕ × (ℕ × List ℕ)). record { table = p.0; shard = p.1.0; files = p.1.1 })
    (exact_pairs bytes_cmp (λ (x y : ℕ × List ℕ). ordering_then (nat_cmp x.0 y.0) (bytes_cmp x.1 y.1)) exact_bytes
    (exact_pairs nat_cmp bytes_cmp exact_unsigned exact_bytes) (a.table, (a.shard, a.files)) (b.table, (b.shard, b.files)) e)

pub listed_are : (xs ys : List Listed) → IsPermutation xs ys → IsSorted listed_cmp ys → ys ≡ in_order listed_cmp xs
listed_are xs ys same sorted = order_is listed_total listed_exact xs ys same sorted

-- ---- laws

pub status_has : StatusAscends
unfolding status_of
status_has tables shards numbers =
    (same_order listed_total (flat_map (in_shards shards numbers) tables), sorted_order listed_total (flat_map (in_shards shards numbers) tables))

pub numbers_ascend : NumbersAscend
numbers_ascend numbers = (same_order nat_cmp_total numbers, sorted_order nat_cmp_total numbers)
