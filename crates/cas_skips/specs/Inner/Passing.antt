-- What the readers that pass over fragments tell (own).
use Rattle.std.specs.Prelude.{ℕ, ◌+◌, List, map, length, Option, None, Some}
use Rattle.std.specs.Borrow.{Bor}
use Rattle.cas_cell.specs.declared.deletion.Deletion.{Deletion}
use Rattle.cas_bounds.specs.declared.map_key.End.{End}
use Rattle.cas_streams.specs.Places.{Place}
use Rattle.cas_streams.specs.declared.fragment.Fragment.{Fragment}
use Rattle.cas_fragments.specs.Blocks.{Reached, past_all}
use Rattle.cas_skips.specs.Marks.{Mark}

-- values that are told by reference
abbrev pub seen : List (Bor (List ℕ)) → List (List ℕ)
seen values = map (λ v. v.now) values

-- what is told of a fragment, by its parts
abbrev pub mark_at : End → Option (Option Deletion) → List (List ℕ) → Mark
mark_at end opens values = record { place = Some (record { end = end; values = values }); opens = opens }

-- a place by its parts: that of a fragment whose end is told, or nowhere
abbrev pub place_at : Option End → List (List ℕ) → Place
place_at None values = None
place_at (Some end) values = Some (record { end = end; values = values })

-- how many fragments were passed over, and how far they came
abbrev pub counted : ℕ → Reached → List Fragment → ℕ × Reached
counted i r fs = (i + length fs, past_all r fs)
