-- Lists and choices, and what a list of the log comes to after one more entry.
use Rattle.std.proofs.Common.{◌≡◌, ◌≢◌, ◌⊎◌, ℕ, List, [], ◌∷◌, ◌++◌, Bool, true, false, refl, ap, ◌∙◌, inl, inr, ⊎_elim, eqb, true≢false}
use Rattle.std.specs.Prelude.{Option, None, Some}
use Rattle.std.specs.List.{fold}
use Rattle.std.proofs.lemmas.Bool.Decides.{eqb_tells}
use Rattle.std.proofs.lemmas.List.Sums.{fold-append}
use Rattle.cas_history.specs.Log.{Has, Each}
use Rattle.cas_history.proofs.LogLists.{has_or_not}
use Rattle.cas_history.proofs.Parts.{part_gets, part_stays}
use Rattle.cas_history.specs.declared.item.Item.{Item}
use Rattle.cas_history.specs.Items.{items, listed, lists_of}

pub some_one : (p q : ℕ) → Some p ≡ Some q → p ≡ q
some_one p q e = ap the e
  where
    the : Option ℕ → ℕ
    the None = 0
    the (Some k) = k

pub none_some : (q : ℕ) → None ≡ Some q → ⊥
none_some q e = true≢false (ap empty e)
  where
    empty : Option ℕ → Bool
    empty None = true
    empty (Some k) = false

pub same_or : (a b : ℕ) → (a ≡ b) ⊎ (a ≢ b)
same_or a b = ⊎_elim (λ (t : (eqb a b ≡ true) × (a ≡ b)). inl t.1) (λ (f : (eqb a b ≡ false) × (a ≢ b)). inr f.1) (eqb_tells a b)

pub none_if : (o : Option ℕ) → ((p : ℕ) → o ≡ Some p → ⊥) → o ≡ None
none_if None no_one = refl
none_if (Some p) no_one = absurd (no_one p refl)

pub has_left : (xs ys : List ℕ) (k : ℕ) → Has xs k → Has (xs ++ ys) k
has_left [] ys k h = absurd h
has_left (x ∷ xs) ys k (inl e) = inl e
has_left (x ∷ xs) ys k (inr h) = inr (has_left xs ys k h)

pub has_right : (xs ys : List ℕ) (k : ℕ) → Has ys k → Has (xs ++ ys) k
has_right [] ys k h = h
has_right (x ∷ xs) ys k h = inr (has_right xs ys k h)

pub has_either : (xs ys : List ℕ) (k : ℕ) → Has (xs ++ ys) k → Has xs k ⊎ Has ys k
has_either [] ys k h = inr h
has_either (x ∷ xs) ys k (inl e) = inl (inl e)
has_either (x ∷ xs) ys k (inr h) = ⊎_elim (λ a. inl (inr a)) (λ b. inr b) (has_either xs ys k h)

pub each_from : (P : ℕ → Type 0) (xs : List ℕ) → ((k : ℕ) → Has xs k → P k) → Each P xs
each_from P [] f = tt
each_from P (x ∷ xs) f = (f x (inl refl), each_from P xs (λ k h. f k (inr h)))

module _ {E : Type 0} where
  -- what a list comes to, after an entry that it has, and after one that changes nothing
  pub fold_gets : {S : Type 0} (f : S → Item E → S) (a : S) (r : ℕ) (before : List (Item E)) (e : Item E) → Has (lists_of e) r → fold f a (listed r (before ++ e ∷ [])) ≡ f (fold f a (listed r before)) e
  fold_gets f a r before e has = ap (fold f a) (part_gets items before e r has) ∙ fold-append f a (listed r before) (e ∷ [])

  pub fold_kept : {S : Type 0} (f : S → Item E → S) (a : S) (r : ℕ) (before : List (Item E)) (e : Item E) → ((s : S) → f s e ≡ s) → fold f a (listed r (before ++ e ∷ [])) ≡ fold f a (listed r before)
  fold_kept f a r before e same =
      ⊎_elim
      (λ has. fold_gets f a r before e has ∙ same (fold f a (listed r before)))
      (λ none. ap (fold f a) (part_stays items before e r none))
      (has_or_not (lists_of e) r)
