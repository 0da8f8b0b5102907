-- A list of which the first element was taken (own).
use Rattle.std.specs.Prelude.{Option, None, Some, List, [], ◌∷◌}

-- the element that was taken, and the others; where none was taken there is none
abbrev pub begun : {X : Type 0} → Option X → List X → List X
begun None others = []
begun (Some x) others = x ∷ others
