-- A list whose first element was taken out (own).
use Rattle.std.specs.Prelude.{Option, None, Some, List, [], ◌∷◌}

-- with that element again; where there was none, the list was empty
abbrev pub with_first : {X : Type 0} → Option X → List X → List X
with_first None others = []
with_first (Some x) others = x ∷ others
