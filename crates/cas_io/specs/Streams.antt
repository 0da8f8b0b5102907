-- What several reads and writes do to the bytes that a source has left and that a sink took, where these are told. Own.
use Rattle.std.specs.Prelude.{◌≡◌, ◌≤◌, ℕ, ◌+◌, List, ◌++◌, length, Option}
use Rattle.std.specs.Io.KnownBytes.{Consumes, Appends, IsAtEnd}
use Rattle.cas_io.specs.declared.script.ScriptFault.{ScriptFault}
use Rattle.cas_io.specs.declared.script.ScriptFault.TheVariants.{Read, TooLong, Mem}

-- the bytes are all that the source had, and none is left
pub record ReadToEnd (old new : Option (List ℕ)) (bytes : List ℕ) : Type 0 where
  pub taken : Consumes old new bytes
  pub at_end : IsAtEnd new

-- so many bytes were taken from the source
abbrev pub TookCount : Option (List ℕ) → Option (List ℕ) → ℕ → Type 0
TookCount old new count = (bytes : List ℕ) × Consumes old new bytes × (length bytes ≡ count)

-- some front of the bytes was added to what the sink took
abbrev pub AppendsFront : Option (List ℕ) → Option (List ℕ) → List ℕ → Type 0
AppendsFront old new bytes = (front : List ℕ) × (back : List ℕ) × (front ++ back ≡ bytes) × Appends old new front

-- at most so many bytes were taken from the source
abbrev pub TookAtMost : Option (List ℕ) → Option (List ℕ) → ℕ → Type 0
TookAtMost old new limit = (bytes : List ℕ) × Consumes old new bytes × (length bytes ≤ limit)

-- why no script was read: the source's count rose, one byte above the limit was taken, or memory ran out; but for the second, no more than the limit was taken
abbrev pub WhyNoScript : ScriptFault → Type 0 → (ℕ → Type 0) → (ℕ → Type 0) → ℕ → Type 0
WhyNoScript Read rose took took_at_most limit = rose × took_at_most limit
WhyNoScript (TooLong taken) rose took took_at_most limit = (taken ≡ limit + 1) × took taken
WhyNoScript Mem rose took took_at_most limit = took_at_most limit
