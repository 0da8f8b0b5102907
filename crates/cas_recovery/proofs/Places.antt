-- Lists of which one place is set.
use Rattle.std.proofs.Common.{◌≡◌, ◌≢◌, ◌<◌, ◌⊎◌, inl, inr, ◌==◌, ℕ, zero, suc, true, false, List, [], ◌∷◌, length, map, Some, refl, ap, arith}
use Rattle.std.proofs.lemmas.Bool.Decides.{nat_tests}
use Rattle.std.specs.Prelude.{slice_set, slice_get, slice_index_or}

pub same_place : (k n : ℕ) → (k ≡ n) ⊎ (k ≢ n)
same_place zero zero = inl refl
same_place zero (suc n) = inr (λ e. absurd (omega (arith, e)))
same_place (suc k) zero = inr (λ e. absurd (omega (arith, e)))
same_place (suc k) (suc n) = next (same_place k n)
  where
    next : (k ≡ n) ⊎ (k ≢ n) → (suc k ≡ suc n) ⊎ (suc k ≢ suc n)
    next (inl e) = inl (ap suc e)
    next (inr f) = inr (λ e. f (omega (arith, e)))

pub length_set : {X : Type 0} (xs : List X) (n : ℕ) (y : X) → length (slice_set xs n y) ≡ length xs
length_set [] n y = refl
length_set (x ∷ xs) zero y = refl
length_set (x ∷ xs) (suc n) y = ap suc (length_set xs n y)

pub get_here : {X : Type 0} (xs : List X) (n : ℕ) (x y : X) → slice_get xs n ≡ Some x → slice_get (slice_set xs n y) n ≡ Some y
get_here [] n x y e = cc
get_here (z ∷ xs) zero x y e = refl
get_here (z ∷ xs) (suc n) x y e = get_here xs n x y e

pub get_other : {X : Type 0} (xs : List X) (n k : ℕ) (y : X) → k ≢ n → slice_get (slice_set xs n y) k ≡ slice_get xs k
get_other [] n k y other = refl
get_other (z ∷ xs) zero zero y other = absurd (other refl)
get_other (z ∷ xs) zero (suc k) y other = refl
get_other (z ∷ xs) (suc n) zero y other = refl
get_other (z ∷ xs) (suc n) (suc k) y other = get_other xs n k y (λ e. other (ap suc e))

pub index_here : {X : Type 0} (xs : List X) (n : ℕ) (y d : X) → n < length xs → slice_index_or (slice_set xs n y) n d ≡ y
index_here [] n y d lt = absurd (omega (arith, lt))
index_here (z ∷ xs) zero y d lt = refl
index_here (z ∷ xs) (suc n) y d lt = index_here xs n y d (omega (arith, lt))

pub index_other : {X : Type 0} (xs : List X) (n k : ℕ) (y d : X) → k ≢ n → slice_index_or (slice_set xs n y) k d ≡ slice_index_or xs k d
index_other [] n k y d other = refl
index_other (z ∷ xs) zero zero y d other = absurd (other refl)
index_other (z ∷ xs) zero (suc k) y d other = refl
index_other (z ∷ xs) (suc n) zero y d other = refl
index_other (z ∷ xs) (suc n) (suc k) y d other = index_other xs n k y d (λ e. other (ap suc e))

pub map_set : {X Y : Type 0} (f : X → Y) (xs : List X) (n : ℕ) (y : X) → map f (slice_set xs n y) ≡ slice_set (map f xs) n (f y)
map_set f [] n y = refl
map_set f (x ∷ xs) zero y = refl
map_set f (x ∷ xs) (suc n) y = ap (λ ys. f x ∷ ys) (map_set f xs n y)

-- a place set to what stands there
pub set_same : {X : Type 0} (xs : List X) (n : ℕ) (x : X) → slice_get xs n ≡ Some x → slice_set xs n x ≡ xs
set_same [] n x e = refl
set_same (z ∷ xs) zero x e = cc
set_same (z ∷ xs) (suc n) x e = ap (λ ys. z ∷ ys) (set_same xs n x e)

pub map_set_same : {X Y : Type 0} (f : X → Y) (xs : List X) (n : ℕ) (x y : X) → slice_get xs n ≡ Some x → f y ≡ f x → map f (slice_set xs n y) ≡ map f xs
map_set_same f [] n x y e same = refl
map_set_same f (z ∷ xs) zero x y e same = cc
map_set_same f (z ∷ xs) (suc n) x y e same = ap (λ ys. f z ∷ ys) (map_set_same f xs n x y e same)

pub get_within : {X : Type 0} (xs : List X) (n : ℕ) (x : X) → slice_get xs n ≡ Some x → n < length xs
get_within [] n x e = cc
get_within (z ∷ xs) zero x e = omega arith
get_within (z ∷ xs) (suc n) x e = let lt = get_within xs n x e in omega (arith, lt)

pub get_map : {X Y : Type 0} (f : X → Y) (xs : List X) (n : ℕ) (x : X) → slice_get xs n ≡ Some x → slice_get (map f xs) n ≡ Some (f x)
get_map f [] n x e = cc
get_map f (z ∷ xs) zero x e = cc
get_map f (z ∷ xs) (suc n) x e = get_map f xs n x e

pub is_same : (n : ℕ) → (n == n) ≡ true
is_same n = grind (arith, nat_tests)

pub is_other : (n k : ℕ) → k ≢ n → (n == k) ≡ false
is_other n k other = grind (arith, nat_tests, other)
