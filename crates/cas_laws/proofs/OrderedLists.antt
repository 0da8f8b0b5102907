-- Lists of keys in order: what is put in, what a test leaves, and that such a list is told by its keys.
use Rattle.std.proofs.Common.{◌≡◌, ◌↔◌, Bool, true, false, cond, Option, None, Some, List, [], ◌∷◌, fold, filter, ◌⊎◌, inl, inr, refl, sym, ap, ◌∙◌, subst}
use Rattle.std.proofs.lemmas.Bool.{true≢false}
use Rattle.std.proofs.lemmas.List.Kept.{IsStrictlySortedBy-filter}
use Rattle.std.specs.List.{AllByRecursion}
use Rattle.std.specs.List.Sorted.{IsStrictlySortedBy}
use Rattle.std.specs.declared.cmp.Ordering.{Ordering}
use Rattle.std.specs.declared.cmp.Ordering.TheVariants.{Less, Equal, Greater}
use Rattle.std.specs.Ordering.{is_lt, ordering_reverse}
use Rattle.std.specs.FinMap.Entries.{by_order}
use Rattle.cas_types.specs.Orders.{Orders}
use Rattle.cas_atoms.specs.RowsAndPaths.{put, put_some, ordered}
use Rattle.cas_laws.specs.Given.{Gives, Has}

pub Gives-mono : {X K L : Type 0} (f : X → Option K) (g : X → Option L) (k : K) (l : L) → ((x : X) → f x ≡ Some k → g x ≡ Some l) → (xs : List X) → Gives f xs k → Gives g xs l
Gives-mono f g k l h [] none = none
Gives-mono f g k l h (x ∷ xs) (inl e) = inl (h x e)
Gives-mono f g k l h (x ∷ xs) (inr later) = inr (Gives-mono f g k l h xs later)

-- ---- what a test leaves

module _ {K : Type 0} (t : K → Bool) (q : K) where
  pub left : (ks : List K) → Has (filter t ks) q → Has ks q × (t q ≡ true)
  left [] none = absurd none
  left (k ∷ ks) h =
      elim (t k) as (λ b. t k ≡ b → Has (cond b (k ∷ filter t ks) (filter t ks)) q → Has (k ∷ ks) q × (t q ≡ true)) [
        | true ↦ λ e g. elim (g) as (λ _. Has (k ∷ ks) q × (t q ≡ true)) [
          | inl same ↦ (inl same, ap t (sym same) ∙ e)
          | inr later ↦ let (there, passes) = left ks later in (inr there, passes)
        ]
        | false ↦ λ e g. let (there, passes) = left ks g in (inr there, passes)
      ] refl h

  pub stays : (ks : List K) → Has ks q → t q ≡ true → Has (filter t ks) q
  stays [] none e = none
  stays (k ∷ ks) (inl same) e = subst (λ b. Has (cond b (k ∷ filter t ks) (filter t ks)) q) (sym (ap t same ∙ e)) (inl same)
  stays (k ∷ ks) (inr later) e =
      elim (t k) as (λ b. Has (cond b (k ∷ filter t ks) (filter t ks)) q) [
        | true ↦ inr (stays ks later e)
        | false ↦ stays ks later e
      ]

has_all : {K : Type 0} (P : K → Type 0) (ks : List K) (q : K) → AllByRecursion P ks → Has ks q → P q
has_all P [] q all none = absurd none
has_all P (k ∷ ks) q all (inl same) = subst P same all.0
has_all P (k ∷ ks) q all (inr later) = has_all P ks q all.1 later

not_both : Less ≡ ordering_reverse Less → ⊥
not_both e = true≢false (ap is_lt e)

module _ {K : Type 0} (R : K → K → Ordering) (o : Orders R) where
  apart : (x y : K) → R x y ≡ Less → R y x ≡ Less → ⊥
  apart x y e f = not_both (sym e ∙ o.total.antisymm x y ∙ ap ordering_reverse f)

  -- ---- two lists in order that have the same keys

  heads : (x y : K) (xs ys : List K) → AllByRecursion (λ k. R x k ≡ Less) xs → AllByRecursion (λ k. R y k ≡ Less) ys → Has (y ∷ ys) x → Has (x ∷ xs) y → x ≡ y
  heads x y xs ys s t (inl e) j = sym e
  heads x y xs ys s t (inr i) (inl e) = e
  heads x y xs ys s t (inr i) (inr j) = absurd (apart x y (has_all (λ k. R x k ≡ Less) xs y s j) (has_all (λ k. R y k ≡ Less) ys x t i))

  tails : (x y : K) (xs ys : List K) → AllByRecursion (λ k. R x k ≡ Less) xs → x ≡ y → (k : K) → Has xs k → Has (y ∷ ys) k → Has ys k
  tails x y xs ys s e k i (inr j) = j
  tails x y xs ys s e k i (inl f) =
      let above : R x k ≡ Less = has_all (λ k. R x k ≡ Less) xs k s i in
      let itself : R x x ≡ Less = ap (R x) (e ∙ f) ∙ above in
      absurd (apart x x itself itself)

  pub same_list : (xs ys : List K) → IsStrictlySortedBy R xs → IsStrictlySortedBy R ys → ((k : K) → Has xs k ↔ Has ys k) → xs ≡ ys
  unfolding IsStrictlySortedBy
  same_list [] [] s t h = refl
  same_list [] (y ∷ ys) s t h = absurd ((h y).1 (inl refl))
  same_list (x ∷ xs) [] s t h = absurd ((h x).0 (inl refl))
  same_list (x ∷ xs) (y ∷ ys) s t h =
      let e : x ≡ y = heads x y xs ys s.0 t.0 ((h x).0 (inl refl)) ((h y).1 (inl refl)) in
      let rest : xs ≡ ys = same_list xs ys s.1 t.1 (λ k. (λ i. tails x y xs ys s.0 e k i ((h k).0 (inr i)), λ j. tails y x ys xs t.0 (sym e) k j ((h k).1 (inr j)))) in
      λ i. e i ∷ rest i

  -- ---- what is put in

  pub was_put : (k : K) (ks : List K) (q : K) → Has (put R k ks) q → (k ≡ q) ⊎ Has ks q
  was_put k [] q h = h
  was_put k (x ∷ xs) q h =
      elim (R k x) as (λ r. Has (by_order r (k ∷ x ∷ xs) (x ∷ xs) (x ∷ put R k xs)) q → (k ≡ q) ⊎ Has (x ∷ xs) q) [
        | Less ↦ λ g. g
        | Equal ↦ λ g. inr g
        | Greater ↦ λ g. elim (g) as (λ _. (k ≡ q) ⊎ Has (x ∷ xs) q) [
          | inl same ↦ inr (inl same)
          | inr later ↦ elim (was_put k xs q later) as (λ _. (k ≡ q) ⊎ Has (x ∷ xs) q) [
            | inl new ↦ inl new
            | inr old ↦ inr (inr old)
          ]
        ]
      ] h

  pub is_put : (k : K) (ks : List K) (q : K) → (k ≡ q) ⊎ Has ks q → Has (put R k ks) q
  is_put k [] q h = h
  is_put k (x ∷ xs) q h =
      elim (R k x) as (λ r. R k x ≡ r → Has (by_order r (k ∷ x ∷ xs) (x ∷ xs) (x ∷ put R k xs)) q) [
        | Less ↦ λ e. h
        | Equal ↦ λ e. elim (h) as (λ _. Has (x ∷ xs) q) [
          | inl new ↦ inl (sym (o.ties k x e) ∙ new)
          | inr old ↦ old
        ]
        | Greater ↦ λ e. elim (h) as (λ _. (x ≡ q) ⊎ Has (put R k xs) q) [
          | inl new ↦ inr (is_put k xs q (inl new))
          | inr old ↦ elim (old) as (λ _. (x ≡ q) ⊎ Has (put R k xs) q) [
            | inl same ↦ inl same
            | inr later ↦ inr (is_put k xs q (inr later))
          ]
        ]
      ] refl

  all_put : (P : K → Type 0) (k : K) (ks : List K) → P k → AllByRecursion P ks → AllByRecursion P (put R k ks)
  all_put P k [] p all = (p, tt)
  all_put P k (x ∷ xs) p all =
      elim (R k x) as (λ r. AllByRecursion P (by_order r (k ∷ x ∷ xs) (x ∷ xs) (x ∷ put R k xs))) [
        | Less ↦ (p, all)
        | Equal ↦ all
        | Greater ↦ (all.0, all_put P k xs p all.1)
      ]

  all_below : (k x : K) (xs : List K) → R k x ≡ Less → AllByRecursion (λ y. R x y ≡ Less) xs → AllByRecursion (λ y. R k y ≡ Less) xs
  all_below k x [] e all = tt
  all_below k x (y ∷ ys) e all = (o.total.trans k x y e all.0, all_below k x ys e all.1)

  sorted_put : (k : K) (ks : List K) → IsStrictlySortedBy R ks → IsStrictlySortedBy R (put R k ks)
  unfolding IsStrictlySortedBy
  sorted_put k [] s = (tt, tt)
  sorted_put k (x ∷ xs) s =
      elim (R k x) as (λ r. R k x ≡ r → IsStrictlySortedBy R (by_order r (k ∷ x ∷ xs) (x ∷ xs) (x ∷ put R k xs))) [
        | Less ↦ λ e. ((e, all_below k x xs e s.0), s)
        | Equal ↦ λ e. s
        | Greater ↦ λ e. (all_put (λ y. R x y ≡ Less) k xs (o.total.antisymm x k ∙ ap ordering_reverse e) s.0, sorted_put k xs s.1)
      ] refl

  module _ {X : Type 0} (given : X → Option K) where
    all_of : List K → List X → List K
    all_of ks xs = fold (λ ks x. put_some R ks (given x)) ks xs

    sorted_some : (ks : List K) (g : Option K) → IsStrictlySortedBy R ks → IsStrictlySortedBy R (put_some R ks g)
    sorted_some ks None s = s
    sorted_some ks (Some k) s = sorted_put k ks s

    sorted_all : (ks : List K) (xs : List X) → IsStrictlySortedBy R ks → IsStrictlySortedBy R (all_of ks xs)
    unfolding all_of
    sorted_all ks [] s = s
    sorted_all ks (x ∷ xs) s = sorted_all (put_some R ks (given x)) xs (sorted_some ks (given x) s)

    was_some : (q : K) (ks : List K) (g : Option K) → Has (put_some R ks g) q → (g ≡ Some q) ⊎ Has ks q
    was_some q ks None h = inr h
    was_some q ks (Some k) h =
        elim (was_put k ks q h) as (λ _. (Some k ≡ Some q) ⊎ Has ks q) [
          | inl new ↦ inl (ap Some new)
          | inr old ↦ inr old
        ]

    is_some_put : (q : K) (ks : List K) (g : Option K) → Has ks q → Has (put_some R ks g) q
    is_some_put q ks None h = h
    is_some_put q ks (Some k) h = is_put k ks q (inr h)

    come : (q : K) (ks : List K) (xs : List X) → Has (all_of ks xs) q → Has ks q ⊎ Gives given xs q
    unfolding all_of
    come q ks [] h = inl h
    come q ks (x ∷ xs) h =
        elim (come q (put_some R ks (given x)) xs h) as (λ _. Has ks q ⊎ Gives given (x ∷ xs) q) [
          | inl there ↦ elim (was_some q ks (given x) there) as (λ _. Has ks q ⊎ Gives given (x ∷ xs) q) [
            | inl new ↦ inr (inl new)
            | inr old ↦ inl old
          ]
          | inr later ↦ inr (inr later)
        ]

    keep : (q : K) (ks : List K) (xs : List X) → Has ks q → Has (all_of ks xs) q
    unfolding all_of
    keep q ks [] h = h
    keep q ks (x ∷ xs) h = keep q (put_some R ks (given x)) xs (is_some_put q ks (given x) h)

    arrive : (q : K) (ks : List K) (xs : List X) → Gives given xs q → Has (all_of ks xs) q
    unfolding all_of
    arrive q ks [] none = absurd none
    arrive q ks (x ∷ xs) (inl e) = keep q (put_some R ks (given x)) xs (subst (λ g. Has (put_some R ks g) q) (sym e) (is_put q ks q (inl refl)))
    arrive q ks (x ∷ xs) (inr later) = arrive q (put_some R ks (given x)) xs later

    pub sorted_ordered : (xs : List X) → IsStrictlySortedBy R (ordered R given xs)
    unfolding ordered all_of IsStrictlySortedBy
    sorted_ordered xs = sorted_all [] xs tt

    pub has_ordered : (xs : List X) (q : K) → Has (ordered R given xs) q ↔ Gives given xs q
    unfolding ordered all_of
    has_ordered xs q = (
      λ h. elim (come q [] xs h) as (λ _. Gives given xs q) [
        | inl none ↦ absurd none
        | inr given ↦ given
      ],
      λ g. arrive q [] xs g,
    )

    -- ---- what a list of given keys is

    pub ordered_is : (xs : List X) (ks : List K) → (ks ≡ ordered R given xs) ↔ (IsStrictlySortedBy R ks × ((q : K) → Has ks q ↔ Gives given xs q))
    ordered_is xs ks = (
      λ e. (subst (IsStrictlySortedBy R) (sym e) (sorted_ordered xs), λ q. subst (λ l. Has l q ↔ Gives given xs q) (sym e) (has_ordered xs q)),
      λ h. same_list ks (ordered R given xs) h.0 (sorted_ordered xs) (λ q. (λ i. (has_ordered xs q).1 ((h.1 q).0 i), λ j. (h.1 q).1 ((has_ordered xs q).0 j))),
    )

    sorted_passing : (t : K → Bool) (xs : List X) → IsStrictlySortedBy R (filter t (ordered R given xs))
    sorted_passing t xs = IsStrictlySortedBy-filter R t (ordered R given xs) (sorted_ordered xs)

    -- of a test that only given keys pass
    has_passing : (t : K → Bool) (xs : List X) → ((k : K) → t k ≡ true → Gives given xs k) → (q : K) → Has (filter t (ordered R given xs)) q ↔ (t q ≡ true)
    has_passing t xs only q = (
      λ i. (left t q (ordered R given xs) i).1,
      λ e. stays t q (ordered R given xs) ((has_ordered xs q).1 (only q e)) e,
    )

    pub passing_is : (t : K → Bool) (xs : List X) → ((k : K) → t k ≡ true → Gives given xs k) → (ks : List K)
        → (ks ≡ filter t (ordered R given xs)) ↔ (IsStrictlySortedBy R ks × ((q : K) → Has ks q ↔ (t q ≡ true)))
    passing_is t xs only ks = (
      λ e. (subst (IsStrictlySortedBy R) (sym e) (sorted_passing t xs), λ q. subst (λ l. Has l q ↔ (t q ≡ true)) (sym e) (has_passing t xs only q)),
      λ h. same_list ks (filter t (ordered R given xs)) h.0 (sorted_passing t xs) (λ q. (λ i. (has_passing t xs only q).1 ((h.1 q).0 i), λ j. (h.1 q).1 ((has_passing t xs only q).0 j))),
    )

  -- tests that agree, and that only given keys pass
  pub same_filtered : {X Y : Type 0} (f : X → Option K) (g : Y → Option K) (t u : K → Bool) (xs : List X) (ys : List Y)
      → ((k : K) → t k ≡ u k) → ((k : K) → t k ≡ true → Gives f xs k) → ((k : K) → u k ≡ true → Gives g ys k)
      → filter t (ordered R f xs) ≡ filter u (ordered R g ys)
  same_filtered f g t u xs ys agree fx gy =
      let (sorted, has) = (passing_is f t xs fx (filter t (ordered R f xs))).0 refl in
      (passing_is g u ys gy (filter t (ordered R f xs))).1 (sorted, λ q. (λ i. sym (agree q) ∙ (has q).0 i, λ e. (has q).1 (agree q ∙ e)))
