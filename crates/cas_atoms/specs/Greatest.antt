-- The greatest of the values that the elements of a list give (own).
use Rattle.std.specs.Prelude.{Option, None, Some, List, [], ◌∷◌, cond}
use Rattle.std.specs.declared.cmp.Ordering.{Ordering}
use Rattle.std.specs.Ordering.{is_lt}

-- the greater of two, where there are two
abbrev pub greater : {Y : Type 0} → (Y → Y → Ordering) → Option Y → Option Y → Option Y
greater cmp None b = b
greater cmp (Some x) None = Some x
greater cmp (Some x) (Some y) = Some (cond (is_lt (cmp x y)) y x)

-- the greatest of what the elements of the list give, or none
abbrev pub greatest : {X Y : Type 0} → (Y → Y → Ordering) → (X → Option Y) → List X → Option Y
greatest cmp f [] = None
greatest cmp f (x ∷ xs) = greater cmp (f x) (greatest cmp f xs)
