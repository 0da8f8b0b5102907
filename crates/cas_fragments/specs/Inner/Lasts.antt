-- What stands last in a list.
use Rattle.std.specs.Prelude.{ℕ, ◌-◌, List, length, slice_get, Option}
use Rattle.std.specs.Option.{option_map}
use Rattle.cas_bounds.specs.Points.{Point}
use Rattle.cas_bounds.specs.declared.map_key.End.{End}

-- the key of the last item, where there is one
abbrev pub last_key : {A K : Type 0} → (A → K) → List A → Option K
last_key key xs = option_map key (slice_get xs (length xs - 1))

-- a point by its end and its values
abbrev pub point_of : End → List (List ℕ) → Point
point_of end values = record { end = end; values = values }
