-- Where a list is sorted, what is twice in it stands side by side; and sorting changes nothing of whether something is twice in it.
use Rattle.std.proofs.Common.{◌≡◌, ℕ, suc, ◌+◌, ◌<◌, nat_lt, Bool, true, false, cond, ◌||◌, List, [], ◌∷◌, length, get_or, refl, sym, ap, ◌∙◌, arith}
use Rattle.std.specs.List.{list_any, count_by, sum_by}
use Rattle.std.specs.List.Sorted.{IsPermutation, IsSorted}
use Rattle.std.specs.Cmp.{IsTotalOrder}
use Rattle.std.specs.Ordering.{is_lt, is_eq, is_gt, ordering_reverse}
use Rattle.std.specs.Str.{bytes_eq}
use Rattle.std.specs.declared.cmp.Ordering.{Ordering}
use Rattle.std.specs.declared.cmp.Ordering.TheVariants.{Less, Equal, Greater}
use Rattle.std.proofs.lemmas.Bool.Decides.{nat_tests}
use Rattle.std.proofs.lemmas.Cmp.{nat_list_cmp_total, tied_itself}
use Rattle.std.proofs.lemmas.List.Sums.{sum_by-cons}
use Rattle.std.proofs.lemmas.List.Sorted.{length_permutation, sum_by-IsPermutation, ranks_by}
use Rattle.std.proofs.lemmas.Map.Text.{is_eq-slice_cmp}
use Rattle.cas_types.specs.Values.{bytes_cmp}
use Rattle.cas_terms.specs.Inner.Beside.{any_beside}
use Rattle.cas_terms.specs.Names.{any_two}

-- ---- what stands between two that are one is one with the first

module _ {K : Type 0} {R : K → K → Ordering} (o : IsTotalOrder R) where
  -- between two that tie, in order, all tie
  pub between : (x y z : K) → is_gt (R x y) ≡ false → is_gt (R y z) ≡ false → is_eq (R x z) ≡ true → is_eq (R x y) ≡ true
  between x y z below above tied =
      elim (R x y) as (λ r. R x y ≡ r → is_gt r ≡ false → is_eq r ≡ true) [
        | Less ↦ λ e g. absurd (cases (R y z) refl e)
        | Equal ↦ λ e g. refl
        | Greater ↦ λ e g. cc
      ] refl below
    where
      is_it : (r : Ordering) → is_eq r ≡ true → r ≡ Equal
      is_it Less e = cc
      is_it Equal e = refl
      is_it Greater e = cc

      cases : (s : Ordering) → R y z ≡ s → R x y ≡ Less → ⊥
      cases Less f e = let less : R x z ≡ Less = o.trans x y z e f in let tie : R x z ≡ Equal = is_it _ tied in cc
      cases Equal f e =
          let back : R z y ≡ Equal = o.antisymm z y ∙ ap ordering_reverse f in
          let turned : R y x ≡ Greater = o.antisymm y x ∙ ap ordering_reverse e in
          let tie : R z x ≡ Equal = o.antisymm z x ∙ ap ordering_reverse (is_it _ tied) in
          let moved : R z x ≡ R y x = o.congr z y x back in cc
      cases Greater f e = let no : is_gt (R y z) ≡ true = ap is_gt f in cc

-- not below is not above, the other way round
pub not_above : {K : Type 0} {R : K → K → Ordering} → IsTotalOrder R → (a b : K) → is_lt (R b a) ≡ false → is_gt (R a b) ≡ false
not_above {K} {R} o a b e = ap is_gt (o.antisymm a b) ∙ back (R b a) ∙ e
  where
    back : (r : Ordering) → is_gt (ordering_reverse r) ≡ is_lt r
    back Less = refl
    back Equal = refl
    back Greater = refl

pub turned_tie : {K : Type 0} {R : K → K → Ordering} → IsTotalOrder R → (x y : K) → is_eq (R x y) ≡ is_eq (R y x)
turned_tie {K} {R} o x y = ap is_eq (o.antisymm x y) ∙ back (R y x)
  where
    back : (r : Ordering) → is_eq (ordering_reverse r) ≡ is_eq r
    back Less = refl
    back Equal = refl
    back Greater = refl

-- ---- a sorted list

module _ {X : Type 0} (lt test : X → X → Bool) (close : (x y z : X) → lt y x ≡ false → lt z y ≡ false → test x z ≡ true → test x y ≡ true)
    (chain : (x y z : X) → lt y x ≡ false → lt z y ≡ false → lt z x ≡ false) where
  abbrev Up : List X → Type 0
  Up [] = Unit {0}
  Up (x ∷ []) = Unit {0}
  Up (x ∷ y ∷ xs) = (lt y x ≡ false) × Up (y ∷ xs)

  far : (x y : X) (xs : List X) → lt y x ≡ false → Up (y ∷ xs) → list_any (test x) xs ≡ true → test x y ≡ true
  far x y [] below up any = cc
  far x y (z ∷ xs) below up any =
      elim (test x z) as (λ b. test x z ≡ b → (b || list_any (test x) xs) ≡ true → test x y ≡ true) [
        | true ↦ λ e a. close x y z below up.0 e
        | false ↦ λ e a. close x y z below up.0 (far x z xs (chain x y z below up.0) up.1 a)
      ] refl any

  pub beside_tells : (xs : List X) → Up xs → any_beside test xs ≡ any_two test xs
  beside_tells [] up = refl
  beside_tells (x ∷ []) up = refl
  beside_tells (x ∷ y ∷ xs) up =
      (λ j. test x y || beside_tells (y ∷ xs) up.1 j)
      ∙ ap (λ b. b || any_two test (y ∷ xs)) (absorbs (test x y) (list_any (test x) xs) (far x y xs up.0 up.1))
    where
      absorbs : (a b : Bool) → (b ≡ true → a ≡ true) → a ≡ (a || b)
      absorbs true b h = refl
      absorbs false true h = h refl
      absorbs false false h = refl

  at_next : (x : X) (xs : List X) (k : ℕ) (d : X) → get_or (x ∷ xs) (suc k + 1) d ≡ get_or xs (k + 1) d
  at_next x xs k d = ap (λ n. get_or (x ∷ xs) n d) (let e : suc k + 1 ≡ suc (k + 1) = omega arith in e)

  pub up_from : (xs : List X) → ((k : ℕ) (d : X) → k + 1 < length xs → lt (get_or xs (k + 1) d) (get_or xs k d) ≡ false) → Up xs
  up_from [] sorted = tt
  up_from (x ∷ []) sorted = tt
  up_from (x ∷ y ∷ xs) sorted =
      (sorted 0 x (omega arith), up_from (y ∷ xs) (λ k d within. ap (λ v. lt v (get_or (y ∷ xs) k d)) (sym (at_next x (y ∷ xs) k d)) ∙ sorted (suc k) d (omega arith)))

-- ---- the number of pairs, which sorting keeps

module _ {X : Type 0} (test : X → X → Bool) (itself : (x : X) → test x x ≡ true) (either_way : (x y : X) → test x y ≡ test y x) where
  abbrev pairs : List X → ℕ
  pairs [] = 0
  pairs (x ∷ xs) = count_by (test x) xs + pairs xs

  any_count : (p : X → Bool) (xs : List X) → list_any p xs ≡ nat_lt 0 (count_by p xs)
  any_count p [] = refl
  any_count p (x ∷ xs) =
      ap (λ b. p x || b) (any_count p xs) ∙ by_first (p x) (count_by p xs) ∙ ap (nat_lt 0) (sym (sum_by-cons (λ y. cond (p y) 1 0) x xs))
    where
      by_first : (b : Bool) (n : ℕ) → (b || nat_lt 0 n) ≡ nat_lt 0 (cond b 1 0 + n)
      by_first true n = grind (arith, nat_tests)
      by_first false n = ap (nat_lt 0) (let e : n ≡ 0 + n = omega arith in e)

  two_count : (xs : List X) → any_two test xs ≡ nat_lt 0 (pairs xs)
  two_count [] = refl
  two_count (x ∷ xs) = (λ j. any_count (test x) xs j || two_count xs j) ∙ added (count_by (test x) xs) (pairs xs)
    where
      added : (m n : ℕ) → (nat_lt 0 m || nat_lt 0 n) ≡ nat_lt 0 (m + n)
      added m n = grind (arith, nat_tests)

  sum_add : (f g : X → ℕ) (xs : List X) → sum_by (λ x. f x + g x) xs ≡ sum_by f xs + sum_by g xs
  sum_add f g [] = refl
  sum_add f g (x ∷ xs) = omega (arith, sum_by-cons (λ x. f x + g x) x xs, sum_by-cons f x xs, sum_by-cons g x xs, sum_add f g xs)

  -- how many tie with each, summed up
  abbrev total : List X → ℕ
  total xs = sum_by (λ y. count_by (test y) xs) xs

  with_one : (x : X) (xs ys : List X) → sum_by (λ y. count_by (test y) (x ∷ xs)) ys ≡ count_by (test x) ys + sum_by (λ y. count_by (test y) xs) ys
  with_one x xs ys =
      (λ j. sum_by (λ y. (sum_by-cons (λ z. cond (test y z) 1 0) x xs ∙ ap (λ b. cond b 1 0 + count_by (test y) xs) (either_way y x)) j) ys)
      ∙ sum_add (λ y. cond (test x y) 1 0) (λ y. count_by (test y) xs) ys

  total_pairs : (xs : List X) → total xs ≡ length xs + (pairs xs + pairs xs)
  total_pairs [] = refl
  total_pairs (x ∷ xs) =
      let all : total (x ∷ xs) ≡ count_by (test x) (x ∷ xs) + sum_by (λ y. count_by (test y) xs) (x ∷ xs) = with_one x xs (x ∷ xs) in
      let own : count_by (test x) (x ∷ xs) ≡ 1 + count_by (test x) xs = sum_by-cons (λ z. cond (test x z) 1 0) x xs ∙ ap (λ b. cond b 1 0 + count_by (test x) xs) (itself x) in
      let rest : sum_by (λ y. count_by (test y) xs) (x ∷ xs) ≡ count_by (test x) xs + total xs = sum_by-cons (λ y. count_by (test y) xs) x xs in
      let before : total xs ≡ length xs + (pairs xs + pairs xs) = total_pairs xs in
      omega arith

  total_kept : (xs ys : List X) → IsPermutation xs ys → total ys ≡ total xs
  total_kept xs ys same =
      (λ j. sum_by (λ y. sum_by-IsPermutation (λ z. cond (test y z) 1 0) xs ys same j) ys) ∙ sum_by-IsPermutation (λ y. count_by (test y) xs) xs ys same

  pub two_kept : (xs ys : List X) → IsPermutation xs ys → any_two test ys ≡ any_two test xs
  two_kept xs ys same =
      let long : length ys ≡ length xs = length_permutation xs ys same in
      let as_many : pairs ys ≡ pairs xs = omega (arith, total_kept xs ys same, total_pairs xs, total_pairs ys) in
      two_count ys ∙ ap (nat_lt 0) as_many ∙ sym (two_count xs)

-- ---- names

names_near : (x y z : List ℕ) → is_lt (bytes_cmp y x) ≡ false → is_lt (bytes_cmp z y) ≡ false → bytes_eq x z ≡ true → bytes_eq x y ≡ true
names_near x y z low high same =
    sym (is_eq-slice_cmp x y) ∙ between nat_list_cmp_total x y z (not_above nat_list_cmp_total x y low) (not_above nat_list_cmp_total y z high) (is_eq-slice_cmp x z ∙ same)

names_chained : (x y z : List ℕ) → is_lt (bytes_cmp y x) ≡ false → is_lt (bytes_cmp z y) ≡ false → is_lt (bytes_cmp z x) ≡ false
names_chained x y z low high = (ranks_by nat_list_cmp_total (λ (n : List ℕ). n)).chain z y x high low

name_itself : (n : List ℕ) → bytes_eq n n ≡ true
name_itself n = sym (is_eq-slice_cmp n n) ∙ ap is_eq (tied_itself nat_list_cmp_total n)

names_turned : (x y : List ℕ) → bytes_eq x y ≡ bytes_eq y x
names_turned x y = sym (is_eq-slice_cmp x y) ∙ turned_tie nat_list_cmp_total x y ∙ is_eq-slice_cmp y x

pub sorted_names : (xs ys : List (List ℕ)) → IsPermutation xs ys → IsSorted bytes_cmp ys → any_beside bytes_eq ys ≡ any_two bytes_eq xs
sorted_names xs ys same sorted =
    beside_tells (λ x y. is_lt (bytes_cmp x y)) bytes_eq names_near names_chained ys
    (up_from (λ x y. is_lt (bytes_cmp x y)) bytes_eq names_near names_chained ys (λ k d within. sorted k d (omega arith) within))
    ∙ two_kept bytes_eq name_itself names_turned xs ys same
