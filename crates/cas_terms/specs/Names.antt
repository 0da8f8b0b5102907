-- Names that stand twice.
-- CQL documentation, "Data definition" and "Data manipulation": a column is defined, given a value or named in a key once.
use Rattle.std.specs.Prelude.{ℕ, Bool, false, ◌||◌, List, [], ◌∷◌}
use Rattle.std.specs.List.{list_any}
use Rattle.std.specs.Str.{bytes_eq}

-- two of the list are so to one another, as two assignments to one column
abbrev pub any_two : {X : Type 0} → (X → X → Bool) → List X → Bool
any_two test [] = false
any_two test (x ∷ xs) = list_any (test x) xs || any_two test xs

-- a name stands twice, as `a` in `(a, b, a)`
abbrev pub stands_twice : List (List ℕ) → Bool
stands_twice ns = any_two bytes_eq ns
