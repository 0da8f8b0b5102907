-- The next key of several memtables.
use Rattle.std.proofs.Common.{◌≡◌, ◌⊎◌, inl, inr, ℕ, Bool, true, false, Option, None, Some, List, [], ◌∷◌, refl, sym, ap, ◌∙◌, subst, ◌≤◌, ◌-◌, length, arith}
use Rattle.std.specs.Prelude.{◌||◌, is_some, if◌then◌else◌, map, take, drop, slice_index_or}
use Rattle.std.specs.Ordering.{is_lt, is_gt, ordering_reverse}
use Rattle.std.specs.declared.cmp.Ordering.{Ordering}
use Rattle.std.specs.declared.cmp.Ordering.TheVariants.{Less, Equal, Greater}
use Rattle.std.proofs.lemmas.Bool.{true≢false}
use Rattle.std.proofs.lemmas.Cmp.{upto}
use Rattle.cas_types.specs.Values.{bytes_cmp}
use Rattle.cas_types.proofs.OrderLaws.{bytes_orders}
use Rattle.cas_memtable.specs.Memtables.{least_of, IsNextKey as IsNextOf}
use Rattle.cas_memtable.specs.declared.memtable.MemPart.{MemPart}
use Rattle.cas_memtable.specs.Kept.{IsNextKey, has_key}
use Rattle.cas_memtable.specs.Inner.Next.{first_of}

-- ---- tests

second_or : (a : Bool) → a || true ≡ true
second_or true = refl
second_or false = refl

or_either : (a b : Bool) → a || b ≡ true → (a ≡ true) ⊎ (b ≡ true)
or_either true b e = inl refl
or_either false b e = inr e

not_greater : (o : Ordering) → is_lt o ≡ true → is_gt o ≡ false
not_greater Less e = refl
not_greater Equal e = cc
not_greater Greater e = cc

reversed_not_greater : (o : Ordering) → is_lt o ≡ false → is_gt (ordering_reverse o) ≡ false
reversed_not_greater Less e = cc
reversed_not_greater Equal e = refl
reversed_not_greater Greater e = refl

below_goes : (a b : List ℕ) → is_lt (bytes_cmp a b) ≡ false → is_gt (bytes_cmp b a) ≡ false
below_goes a b e = ap is_gt (bytes_orders.total.antisymm b a) ∙ reversed_not_greater (bytes_cmp a b) e

-- ---- one memtable more

module _ (m : MemPart) (ms : List MemPart) (after : Option (List ℕ)) where
  abbrev Both : List ℕ → Bool
  Both key = is_some (least_of m key) || has_key ms key

  -- a key that neither is above
  of_both : (next key : List ℕ) → (is_some (least_of m key) ≡ true → is_gt (bytes_cmp next key) ≡ false) → (has_key ms key ≡ true → is_gt (bytes_cmp next key) ≡ false)
      → Both key ≡ true → is_gt (bytes_cmp next key) ≡ false
  of_both next key one others e = by (or_either (is_some (least_of m key)) (has_key ms key) e)
    where
      by : (is_some (least_of m key) ≡ true) ⊎ (has_key ms key ≡ true) → is_gt (bytes_cmp next key) ≡ false
      by (inl h) = one h
      by (inr h) = others h

  neither : IsNextOf m after None → IsNextKey ms after None → IsNextKey (m ∷ ms) after None
  neither a b key above = (λ i. is_some (a key above i) || b key above i)

  only_first : (k : List ℕ) → IsNextOf m after (Some k) → IsNextKey ms after None → IsNextKey (m ∷ ms) after (Some k)
  only_first k a b = (
    a.0,
    ap (λ (t : Bool). t || has_key ms k) a.1,
    λ key above. of_both k key (a.2 key above) (λ h. absurd (true≢false (sym h ∙ b key above))),
  )

  only_others : (q : List ℕ) → IsNextOf m after None → IsNextKey ms after (Some q) → IsNextKey (m ∷ ms) after (Some q)
  only_others q a b = (
    b.0,
    ap (λ (t : Bool). is_some (least_of m q) || t) b.1 ∙ second_or (is_some (least_of m q)),
    λ key above. of_both q key (λ h. absurd (true≢false (sym h ∙ ap is_some (a key above)))) (b.2 key above),
  )

  others_first : (k q : List ℕ) → is_lt (bytes_cmp q k) ≡ true → IsNextOf m after (Some k) → IsNextKey ms after (Some q) → IsNextKey (m ∷ ms) after (Some q)
  others_first k q e a b = (
    b.0,
    ap (λ (t : Bool). is_some (least_of m q) || t) b.1 ∙ second_or (is_some (least_of m q)),
    λ key above. of_both q key (λ h. upto bytes_orders.total q k key (not_greater (bytes_cmp q k) e) (a.2 key above h)) (b.2 key above),
  )

  one_first : (k q : List ℕ) → is_lt (bytes_cmp q k) ≡ false → IsNextOf m after (Some k) → IsNextKey ms after (Some q) → IsNextKey (m ∷ ms) after (Some k)
  one_first k q e a b = (
    a.0,
    ap (λ (t : Bool). t || has_key ms k) a.1,
    λ key above. of_both k key (a.2 key above) (λ h. upto bytes_orders.total k q key (below_goes q k e) (b.2 key above h)),
  )

  pub next_of_both : (a b : Option (List ℕ)) → IsNextOf m after a → IsNextKey ms after b → IsNextKey (m ∷ ms) after (first_of a b)
  next_of_both None None x y = neither x y
  next_of_both None (Some q) x y = only_others q x y
  next_of_both (Some k) None x y = only_first k x y
  next_of_both (Some k) (Some q) x y =
      elim (is_lt (bytes_cmp q k)) as (λ t. is_lt (bytes_cmp q k) ≡ t → IsNextKey (m ∷ ms) after (if t then Some q else Some k)) [
        | true ↦ λ e. others_first k q e x y
        | false ↦ λ e. one_first k q e x y
      ] refl

-- ---- a list by its first element and the others

take_all : {X : Type 0} (xs : List X) → take (length xs) xs ≡ xs
take_all [] = refl
take_all (x ∷ xs) = ap (λ l. x ∷ l) (take_all xs)

opened : {X : Type 0} (xs : List X) (y : X) → 1 ≤ length xs → y ≡ slice_index_or xs 0 y → xs ≡ y ∷ take (length xs - 1) (drop 1 xs)
opened [] y some e = absurd (omega (arith, some))
opened (x ∷ xs) y some e =
    let less : length (x ∷ xs) - 1 ≡ length xs = omega arith in
    ap (λ z. z ∷ xs) (sym e) ∙ ap (λ l. y ∷ l) (sym (take_all xs) ∙ ap (λ n. take n xs) (sym less))

-- the next key of the first memtable and that of the others
pub next_found : {X : Type 0} (f : X → MemPart) (xs : List X) (x : X) (m : MemPart) (after a b c : Option (List ℕ)) → 1 ≤ length xs → x ≡ slice_index_or xs 0 x → m ≡ f x
    → IsNextOf m after a → IsNextKey (map f (take (length xs - 1) (drop 1 xs))) after b → c ≡ first_of a b → IsNextKey (map f xs) after c
next_found f xs x m after a b c some first is one others e =
    subst (λ l. IsNextKey (map f l) after c) (sym (opened xs x some first))
    (subst (IsNextKey (f x ∷ map f (take (length xs - 1) (drop 1 xs))) after) (sym e)
    (next_of_both (f x) (map f (take (length xs - 1) (drop 1 xs))) after a b (subst (λ k. IsNextOf k after a) is one) others))
