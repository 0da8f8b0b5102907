-- What a source and a sink in memory do at a call, by their plan. Own.
use Rattle.std.specs.Prelude.{◌≡◌, ℕ, ◌+◌, ◌-◌, ◌^◌, Result, MatchResult, OnOk, nat_le, min, max, Option, None, Some, if◌then◌else◌}

-- how many bytes a read may give after `given` bytes, at least one; None where it fails
abbrev pub next_piece : Option ℕ → ℕ → ℕ → Option ℕ
next_piece None at_most given = Some (max at_most 1)
next_piece (Some fails_after) at_most given = if nat_le fails_after given then None else Some (min (max at_most 1) (fails_after - given))

-- a read gave what the plan allows, as far as there were bytes and room, or failed where the plan says so
abbrev pub AsPlanned : {E : Type 0} → Option ℕ → ℕ → Result ℕ E → Type 0
AsPlanned None ready result = OnOk result ⊥
AsPlanned (Some most) ready result = MatchResult result (λ count. count ≡ min most ready) (λ _. ⊥)

-- one fault more, but never past the greatest u64
abbrev pub one_more : ℕ → ℕ
one_more before = min (before + 1) (2 ^ 64 - 1)
