-- Two lists in order woven into one (own).
use Rattle.std.specs.Prelude.{List, [], ◌∷◌}
use Rattle.std.specs.declared.cmp.Ordering.{Ordering}
use Rattle.std.specs.FinMap.Entries.{by_order}

-- how two lists are woven: the order; what comes of an element that stands alone, on the left and on the right, and of two that tie; and what is
-- known when an element was passed
pub record Weave (S X : Type 0) : Type 0 where
  pub order : X → X → Ordering
  pub left : S → X → X
  pub right : S → X → X
  pub both : S → X → X → X
  pub past_left : S → X → S
  pub past_right : S → X → S

-- the right list, where the left one is at its end
abbrev pub rights : {S X : Type 0} → Weave S X → S → List X → List X
rights w s [] = []
rights w s (y ∷ ys) = w.right s y ∷ rights w (w.past_right s y) ys

-- an element of the left list put among the right list; `others` weaves those after it
abbrev pub among : {S X : Type 0} → Weave S X → X → (S → List X → List X) → S → List X → List X
among w x others s [] = w.left s x ∷ others (w.past_left s x) []
among w x others s (y ∷ ys) =
    by_order (w.order x y)
    (w.left s x ∷ others (w.past_left s x) (y ∷ ys))
    (w.both s x y ∷ others (w.past_right (w.past_left s x) y) ys)
    (w.right s y ∷ among w x others (w.past_right s y) ys)

-- both lists woven
abbrev pub woven : {S X : Type 0} → Weave S X → S → List X → List X → List X
woven w s [] ys = rights w s ys
woven w s (x ∷ xs) ys = among w x (λ t zs. woven w t xs zs) s ys
