-- How a range of a file is filled (own).
use Rattle.std.specs.Prelude.{◌≡◌, ℕ, ◌≤◌, List, length, take, drop}

-- so many bytes of the file from that place on stand at the front
pub record IsFront (file : List ℕ) (at count : ℕ) (bytes : List ℕ) : Type 0 where
  pub there : take count bytes ≡ take count (drop at file)
  pub within : count ≤ length (drop at file)

-- all that the file has of a range that is so long stands at the front
abbrev pub IsFilled : List ℕ → ℕ → ℕ → ℕ → List ℕ → Type 0
IsFilled file at long count bytes = take count bytes ≡ take long (drop at file)
