-- What is answered when the next live row is asked for (own).
use Rattle.std.specs.Prelude.{◌≡◌, ℕ, Bool, true, false, is_some, ◌-◌, ◌<◌, ◌≤◌, Option, None, Some, List, [], ◌∷◌, Result, Ok, Err}
use Rattle.cas_atoms.specs.declared.query.LiveRow.{LiveRow}

-- the first of the rows to come, and the others are to come then; none where none is to come; a fault says nothing of them
abbrev pub GivesFirst : {E : Type 0} → List LiveRow → Option (List LiveRow) → Result (Option LiveRow) E → Type 0
GivesFirst rs after (Err e) = Unit {0}
GivesFirst rs after (Ok None) = (rs ≡ []) × (after ≡ Some [])
GivesFirst rs after (Ok (Some r)) = (rest : List LiveRow) × (rs ≡ r ∷ rest) × (after ≡ Some rest)

-- after each row fewer are to come at most, so that at last none is
abbrev pub GoesDown : {E : Type 0} → ℕ → ℕ → Result (Option LiveRow) E → Type 0
GoesDown before after (Err e) = Unit {0}
GoesDown before after (Ok None) = after ≤ before
GoesDown before after (Ok (Some r)) = after < before

-- the fault that was answered is answered again, and no other; without one there was none before
abbrev pub RepeatsFault : {E : Type 0} → Option E → Option E → Result (Option LiveRow) E → Type 0
RepeatsFault before after (Ok r) = (before ≡ None) × (after ≡ None)
RepeatsFault None after (Err e) = after ≡ Some e
RepeatsFault (Some d) after (Err e) = (d ≡ e) × (after ≡ Some e)

-- how many more rows are wanted: one fewer where one was given
abbrev pub left_wanted : Option ℕ → Bool → Option ℕ
left_wanted None given = None
left_wanted (Some n) false = Some n
left_wanted (Some n) true = Some (n - 1)

-- and after that answer
abbrev pub wanted_after : {E : Type 0} → Option ℕ → Result (Option LiveRow) E → Option ℕ
wanted_after wanted (Ok row) = left_wanted wanted (is_some row)
wanted_after wanted (Err e) = wanted
