-- What a crash may leave of a block behind a gate. Own.
use Rattle.std.specs.Prelude.{◌≡◌, ℕ, List, ◌∷◌, ◌++◌, Option, Some}

-- The file begins as it did; then comes the gate, and what stands behind it. The gate is open, 1, only before the whole block.
pub record MayOpen (front block : List ℕ) (file : Option (List ℕ)) : Type 0 where
  pub gate : ℕ
  pub rest : List ℕ
  pub is : file ≡ Some (front ++ gate ∷ rest)
  pub whole : gate ≡ 1 → rest ≡ block

-- The same where something follows the closed gate, which a crash left: the gate is open only before the whole block, and what is left follows that.
pub record MayOpenOver (front block : List ℕ) (file : Option (List ℕ)) : Type 0 where
  pub gate : ℕ
  pub rest : List ℕ
  pub is : file ≡ Some (front ++ gate ∷ rest)
  pub whole : gate ≡ 1 → (left : List ℕ) × (rest ≡ block ++ left)
