-- What a source answers when it is asked for the next fragment (own).
use Rattle.std.specs.Prelude.{◌≡◌, ℕ, ◌<◌, ◌≤◌, Option, None, Some, List, [], ◌∷◌, Result, Ok, Err}
use Rattle.cas_streams.specs.declared.fragment.Fragment.{Fragment}

-- the first of those to come, and the others are to come then; none where none is to come; a fault says nothing of them
abbrev pub TakesFirst : {E : Type 0} → List Fragment → Option (List Fragment) → Result (Option Fragment) E → Type 0
TakesFirst fs after (Err e) = Unit {0}
TakesFirst fs after (Ok None) = (fs ≡ []) × (after ≡ Some [])
TakesFirst fs after (Ok (Some f)) = (rest : List Fragment) × (fs ≡ f ∷ rest) × (after ≡ Some rest)

-- fewer are to come after each that is given, so that at last none is
abbrev pub Shrinks : {E : Type 0} → ℕ → ℕ → Result (Option Fragment) E → Type 0
Shrinks before after (Err e) = Unit {0}
Shrinks before after (Ok None) = after ≤ before
Shrinks before after (Ok (Some f)) = after < before

-- a source that is broken answers its fault and stays so; one that isn't is broken by the fault that it answers, and by nothing else
abbrev pub KeepsFault : {E : Type 0} → Option E → Option E → Result (Option Fragment) E → Type 0
KeepsFault before after (Ok f) = (before ≡ None) × (after ≡ None)
KeepsFault None after (Err e) = after ≡ Some e
KeepsFault (Some d) after (Err e) = (d ≡ e) × (after ≡ Some e)
