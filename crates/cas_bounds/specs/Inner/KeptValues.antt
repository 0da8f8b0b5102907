-- Where the values of a row's clustering columns stand.
use Rattle.std.specs.Prelude.{ℕ, List, [], ◌∷◌}
use Rattle.cas_bounds.specs.declared.values.Kept.{Kept}
use Rattle.cas_bounds.specs.declared.values.Kept.TheVariants.{Here, Apart}

-- the values that are kept, a sole one in place or all apart
abbrev pub kept_values : Kept → List (List ℕ)
kept_values (Here value) = value ∷ []
kept_values (Apart values) = values.items
