-- Which values the elements of a list give, and which stand in a list (own).
use Rattle.std.specs.Prelude.{◌≡◌, ◌↔◌, ◌⊎◌, Option, Some, List, [], ◌∷◌}

-- some element of the list gives that value
abbrev pub Gives : {X K : Type 0} → (X → Option K) → List X → K → Type 0
Gives given [] k = ⊥
Gives given (x ∷ xs) k = (given x ≡ Some k) ⊎ Gives given xs k

-- both lists give the same values, however often and in whatever order
abbrev pub GiveAlike : {X Z K : Type 0} → (X → Option K) → List X → (Z → Option K) → List Z → Type 0
GiveAlike {K = K} f xs g zs = (k : K) → Gives f xs k ↔ Gives g zs k

-- the value stands in the list
abbrev pub Has : {K : Type 0} → List K → K → Type 0
Has [] k = ⊥
Has (x ∷ xs) k = (x ≡ k) ⊎ Has xs k
