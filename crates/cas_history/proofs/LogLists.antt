-- Lists: beginnings, elements that are so, and sums.
use Rattle.std.proofs.Common.{◌≡◌, ◌≢◌, ◌⊎◌, ℕ, zero, suc, ◌+◌, ◌<◌, ◌≤◌, List, [], ◌∷◌, ◌++◌, map, set, Bool, true, false, cond, refl, ap, sym, ◌∙◌, subst, inl, inr, ⊎_elim, arith, append_assoc, append-nil, eq-eqb, eqb, true≢false}
use Rattle.std.proofs.lemmas.Bool.Decides.{eqb_tells}
use Rattle.std.specs.Prelude.{◌==◌, ◌||◌}
use Rattle.std.specs.List.{list_any}
use mathlib.Core.Option.{some, some-injective, some-ne-none}
use mathlib.Core.List.{IsPrefix}
use lib.ListN.{get_elem?}
use Rattle.cas_history.specs.Log.{Each, Any, Has}
use Rattle.cas_history.specs.Hands.{times, total}

module _ {A : Type 0} where
  pub begins_itself : (xs : List A) → IsPrefix xs xs
  begins_itself xs = ([], append-nil xs)

  pub begins_longer : (xs ys zs : List A) → IsPrefix xs ys → IsPrefix xs (ys ++ zs)
  begins_longer xs ys zs p = (p.0 ++ zs, sym (append_assoc xs p.0 zs) ∙ ap (λ l. l ++ zs) p.1)

  pub each_weaker : (P Q : A → Type 0) → ((x : A) → P x → Q x) → (xs : List A) → Each P xs → Each Q xs
  each_weaker P Q f [] e = tt
  each_weaker P Q f (x ∷ xs) e = (f x e.0, each_weaker P Q f xs e.1)

  pub each_map : (P : A → Type 0) (f : A → A) → ((x : A) → P (f x)) → (xs : List A) → Each P (map f xs)
  each_map P f all [] = tt
  each_map P f all (x ∷ xs) = (all x, each_map P f all xs)

  -- where f keeps what is so
  pub each_kept : (P : A → Type 0) (f : A → A) → ((x : A) → P x → P (f x)) → (xs : List A) → Each P xs → Each P (map f xs)
  each_kept P f keep [] e = tt
  each_kept P f keep (x ∷ xs) e = (keep x e.0, each_kept P f keep xs e.1)

  pub each_append : (P : A → Type 0) (xs ys : List A) → Each P xs → Each P ys → Each P (xs ++ ys)
  each_append P [] ys e f = f
  each_append P (x ∷ xs) ys e f = (e.0, each_append P xs ys e.1 f)

  pub each_at : (P : A → Type 0) (xs : List A) (x : A) → Each P xs → Has xs x → P x
  each_at P [] x e h = absurd h
  each_at P (y ∷ ys) x e (inl same) = subst P same e.0
  each_at P (y ∷ ys) x e (inr later) = each_at P ys x e.1 later

  -- one that is so among those that all are so
  pub any_of_each : (P Q R : A → Type 0) → ((x : A) → P x → Q x → R x) → (xs : List A) → Any P xs → Each Q xs → Any R xs
  any_of_each P Q R f [] a e = absurd a
  any_of_each P Q R f (x ∷ xs) (inl p) e = inl (f x p e.0)
  any_of_each P Q R f (x ∷ xs) (inr a) e = inr (any_of_each P Q R f xs a e.1)

  -- what follows from each that is so
  pub any_gives : (P : A → Type 0) (B : Type 0) → ((x : A) → P x → B) → (xs : List A) → Any P xs → B
  any_gives P B f [] a = absurd a
  any_gives P B f (x ∷ xs) (inl p) = f x p
  any_gives P B f (x ∷ xs) (inr a) = any_gives P B f xs a

  pub has_begun : (xs ys : List A) (x : A) → IsPrefix xs ys → Has xs x → Has ys x
  has_begun xs ys x p h = subst (λ l. Has l x) p.1 (has_append xs p.0 x h)
    where
      has_append : (xs zs : List A) (x : A) → Has xs x → Has (xs ++ zs) x
      has_append [] zs x h = absurd h
      has_append (y ∷ ys) zs x (inl e) = inl e
      has_append (y ∷ ys) zs x (inr h) = inr (has_append ys zs x h)

  pub has_last : (xs : List A) (x : A) → Has (xs ++ x ∷ []) x
  has_last [] x = inl refl
  has_last (y ∷ ys) x = inr (has_last ys x)

  pub total_append : (f : A → ℕ) (xs ys : List A) → total f (xs ++ ys) ≡ total f xs + total f ys
  total_append f [] ys = omega arith
  total_append f (x ∷ xs) ys = let e = total_append f xs ys in omega arith

  pub total_map : (f : A → ℕ) (g : A → A) → ((x : A) → f (g x) ≡ f x) → (xs : List A) → total f (map g xs) ≡ total f xs
  total_map f g same [] = refl
  total_map f g same (x ∷ xs) = let e = total_map f g same xs in let s = same x in omega arith

  -- g and h cut each in two
  pub total_cut : (f : A → ℕ) (g h : A → A) → ((x : A) → f (g x) + f (h x) ≤ f x) → (xs : List A) → total f (map g xs) + total f (map h xs) ≤ total f xs
  total_cut f g h cut [] = omega arith
  total_cut f g h cut (x ∷ xs) = let e = total_cut f g h cut xs in let s = cut x in omega arith

  pub total_set : (f : A → ℕ) (xs : List A) (i : ℕ) (x y : A) → get_elem? xs i ≡ some x → total f (set xs i y) + f x ≡ total f xs + f y
  total_set f [] i x y e = absurd (some-ne-none x (sym e))
  total_set f (z ∷ zs) zero x y e = let s = ap f (some-injective z x e) in omega arith
  total_set f (z ∷ zs) (suc i) x y e = let s = total_set f zs i x y e in omega arith

  pub total_at : (f : A → ℕ) (xs : List A) (i : ℕ) (x : A) → get_elem? xs i ≡ some x → f x ≤ total f xs
  total_at f [] i x e = absurd (some-ne-none x (sym e))
  total_at f (z ∷ zs) zero x e = let s = ap f (some-injective z x e) in omega arith
  total_at f (z ∷ zs) (suc i) x e = let s = total_at f zs i x e in omega arith

  -- two places
  pub total_two : (f : A → ℕ) (xs : List A) (i j : ℕ) (x y : A) → j ≢ i → get_elem? xs i ≡ some x → get_elem? xs j ≡ some y → f x + f y ≤ total f xs
  total_two f [] i j x y n e d = absurd (some-ne-none x (sym e))
  total_two f (z ∷ zs) zero zero x y n e d = absurd (n refl)
  total_two f (z ∷ zs) zero (suc j) x y n e d = let s = ap f (some-injective z x e) in let t = total_at f zs j y d in omega arith
  total_two f (z ∷ zs) (suc i) zero x y n e d = let s = ap f (some-injective z y d) in let t = total_at f zs i x e in omega arith
  total_two f (z ∷ zs) (suc i) (suc j) x y n e d = let s = total_two f zs i j x y (λ k. n (ap suc k)) e d in omega arith

-- what a list names stands in it
pub named : (ks : List ℕ) (r : ℕ) → list_any (λ k. k == r) ks ≡ true → Has ks r
named [] r e = absurd (true≢false (sym e))
named (k ∷ ks) r e =
    ⊎_elim
    (λ (t : (eqb k r ≡ true) × (k ≡ r)). inl t.1)
    (λ (f : (eqb k r ≡ false) × (k ≢ r)). inr (named ks r (subst (λ b. (b || list_any (λ m. m == r) ks) ≡ true) f.0 e)))
    (eqb_tells k r)

pub times_some : (ks : List ℕ) (r : ℕ) → Has ks r → 0 < times r ks
times_some [] r h = absurd h
times_some (k ∷ ks) r (inl e) = let s : cond {A = ℕ} (k == r) 1 0 ≡ 1 = ap (λ (b : Bool). cond {A = ℕ} b 1 0) (eq-eqb k r e) in omega arith
times_some (k ∷ ks) r (inr h) = let s = times_some ks r h in omega arith

pub times_append : (ks ls : List ℕ) (r : ℕ) → times r (ks ++ ls) ≡ times r ks + times r ls
times_append [] ls r = omega arith
times_append (k ∷ ks) ls r = let e = times_append ks ls r in omega arith

pub has_or_not : (ks : List ℕ) (r : ℕ) → Has ks r ⊎ (Has ks r → ⊥)
has_or_not [] r = inr (λ h. h)
has_or_not (k ∷ ks) r =
    ⊎_elim
    (λ (t : (eqb k r ≡ true) × (k ≡ r)). inl (inl t.1))
    (λ (f : (eqb k r ≡ false) × (k ≢ r)). ⊎_elim (λ h. inl (inr h)) (λ n. inr (λ h. ⊎_elim f.1 n h)) (has_or_not ks r))
    (eqb_tells k r)
