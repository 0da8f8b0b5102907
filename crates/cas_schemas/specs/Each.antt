-- Items one after another, of which each may depend on those before it, as no name stands twice. Own.
use Rattle.std.specs.Prelude.{ℕ, zero, suc, List, [], ◌∷◌, ◌++◌, Ok}
use Rattle.cas_codec.specs.Reading.{Left, Read, ◌>>=◌}

-- so many items, each read by those that stand before it
unfoldable pub each_at : {A : Type 0} → (List A → Left → Read A) → ℕ → List A → Left → Read (List A)
each_at reading zero before left = Ok ([], left)
each_at reading (suc n) before left = do
  first ← reading before left
  others ← each_at reading n (before ++ first.0 ∷ []) first.1
  Ok (first.0 ∷ others.0, others.1)

-- each fits behind those before it
abbrev pub EachFits : {A : Type 0} → (List A → A → Type 0) → List A → List A → Type 0
EachFits Fits before [] = Unit {0}
EachFits Fits before (x ∷ xs) = Fits before x × EachFits Fits (before ++ x ∷ []) xs
