-- The seats of shards, one after another.
use Rattle.std.proofs.Common.{◌≡◌, ◌<◌, ◌+◌, ℕ, zero, suc, List, [], ◌∷◌, ◌++◌, length, map, take, get_or, sym, ap, ◌∙◌, arith}
use Rattle.std.proofs.lemmas.List.{map-append, take_more}
use Rattle.cas_history.specs.Hands.{numbers}

numbers_suc : (m n : ℕ) → numbers m (suc n) ≡ numbers m n ++ (m + n) ∷ []
numbers_suc m zero = ap (λ (k : ℕ). k ∷ []) (omega arith)
numbers_suc m (suc n) = ap (λ (l : List ℕ). m ∷ l) (numbers_suc (suc m) n ∙ ap (λ (k : ℕ). numbers (suc m) n ++ k ∷ []) (omega arith))

pub more_places : {X : Type 0} (f : X → ℕ) (xs ys : List X) (x : X) (n : ℕ) → map f xs ≡ numbers 0 n → ys ≡ xs ++ x ∷ [] → f x ≡ n → map f ys ≡ numbers 0 (n + 1)
more_places f xs ys x n are more is =
    let here : f x ≡ 0 + n = omega (arith, is) in
    let next : suc n ≡ n + 1 = omega arith in
    ap (map f) more ∙ map-append f xs (x ∷ []) ∙ ap (λ (l : List ℕ). l ++ f x ∷ []) are ∙ ap (λ (k : ℕ). numbers 0 n ++ k ∷ []) here
    ∙ sym (numbers_suc 0 n) ∙ ap (numbers 0) next

pub more_numbers : {X Y : Type 0} (f : X → ℕ) (h : Y → ℕ) (xs ys : List X) (x : X) (zs : List Y) (z : Y) (n : ℕ) → map f xs ≡ map h (take n zs)
    → ys ≡ xs ++ x ∷ [] → f x ≡ h z → n < length zs → z ≡ get_or zs n z → map f ys ≡ map h (take (n + 1) zs)
more_numbers f h xs ys x zs z n are more same lt is =
    ap (map f) more ∙ map-append f xs (x ∷ []) ∙ ap (λ (l : List ℕ). l ++ f x ∷ []) are ∙ ap (λ (k : ℕ). map h (take n zs) ++ k ∷ []) same
    ∙ sym (map-append h (take n zs) (z ∷ [])) ∙ ap (map h) (ap (λ w. take n zs ++ w ∷ []) is ∙ sym (take_more zs n z lt))
