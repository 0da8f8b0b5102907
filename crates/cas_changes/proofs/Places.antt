-- Lists of which one item is changed.
use Rattle.std.proofs.Common.{◌≡◌, ℕ, zero, suc, ◌+◌, ◌<◌, ◌≤◌, List, [], ◌∷◌, ◌++◌, length, map, take, drop, refl, ap, ◌∙◌, arith}
use Rattle.std.specs.Prelude.{slice_get, slice_set, slice_index_or, unwrap_or}

pub set_past : {A : Type 0} (xs : List A) (i : ℕ) (y : A) → length xs ≤ i → slice_set xs i y ≡ xs
set_past [] i y past = refl
set_past (x ∷ xs) zero y past = absurd (omega arith)
set_past {A} (x ∷ xs) (suc i) y past = ap (λ (l : List A). x ∷ l) (set_past xs i y (omega arith))

pub get_within : {A : Type 0} (xs : List A) (i : ℕ) (d : A) → i < length xs → unwrap_or (slice_get xs i) d ≡ slice_index_or xs i d
get_within [] i d within = absurd (omega arith)
get_within (x ∷ xs) zero d within = refl
get_within (x ∷ xs) (suc i) d within = get_within xs i d (omega arith)

one_on : {A : Type 0} (f : A → A) (xs : List A) (i : ℕ) (d : A) → i < length xs
    → slice_set (map f (take i xs) ++ drop i xs) i (f (slice_index_or (map f (take i xs) ++ drop i xs) i d)) ≡ map f (take (suc i) xs) ++ drop (suc i) xs
one_on f [] i d within = absurd (omega arith)
one_on f (x ∷ xs) zero d within = refl
one_on {A} f (x ∷ xs) (suc i) d within = ap (λ (l : List A). f x ∷ l) (one_on f xs i d (omega arith))

-- one more of the items is changed
pub one_more : {A : Type 0} (f : A → A) (xs : List A) (i : ℕ) (d : A) → i < length xs
    → slice_set (map f (take i xs) ++ drop i xs) i (f (slice_index_or (map f (take i xs) ++ drop i xs) i d)) ≡ map f (take (i + 1) xs) ++ drop (i + 1) xs
one_more {A} f xs i d within =
    let next : suc i ≡ i + 1 = omega arith in
    one_on f xs i d within ∙ ap (λ (n : ℕ). map f (take n xs) ++ drop n xs) next
