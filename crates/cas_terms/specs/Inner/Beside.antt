-- What stands side by side in a list.
use Rattle.std.specs.Prelude.{Bool, false, ◌||◌, List, [], ◌∷◌}

-- the first of a list passes
abbrev pub first_passes : {X : Type 0} → (X → Bool) → List X → Bool
first_passes p [] = false
first_passes p (x ∷ xs) = p x

-- two that stand side by side are so to one another
abbrev pub any_beside : {X : Type 0} → (X → X → Bool) → List X → Bool
any_beside test [] = false
any_beside test (x ∷ xs) = first_passes (test x) xs || any_beside test xs
