-- What a merger tells (own).
use Rattle.std.specs.Prelude.{◌≡◌, ℕ, ◌+◌, Option, None, Some, List, [], ◌∷◌, fold}
use Rattle.cas_cell.specs.declared.deletion.Deletion.{Deletion}
use Rattle.cas_streams.specs.Joined.{Stream}
use Rattle.cas_streams.specs.Settled.{settled_from}
use Rattle.cas_streams.specs.Merged.{Draw, entered, draw, joined_all}
use Rattle.cas_streams.specs.declared.fragment.Fragment.{Fragment}
use Rattle.cas_merge.specs.declared.bracket.Bracket.{Bracket}
use Rattle.cas_merge.specs.Inner.Brackets.{coming, room, left_to_come, Tells}
use Rattle.cas_merge.specs.Told.{streams_told}

-- what is left of streams, where all of them are told
abbrev pub left_of_streams : Option Deletion → Option (List Stream) → Option (List Fragment)
left_of_streams top None = None
left_of_streams top (Some ss) = Some (settled_from top None (joined_all (draw ss)).fragments)

-- what is to come of sources that wait, or, where none does, of the bracket
abbrev pub merger_to_come : {I : Type 0} → (I → Option (List Fragment)) → (I → Option Deletion) → Option Deletion → Option Deletion → List I
    → Bracket I → Option (List Fragment)
merger_to_come tells tops top now [] b = left_to_come top now (coming tells b)
merger_to_come tells tops top now (s ∷ ss) b = left_of_streams top (streams_told tells tops (s ∷ ss))

-- how many fragments sources have at most
abbrev pub rooms : {I : Type 0} → (I → ℕ) → List I → ℕ
rooms holds [] = 0
rooms holds (s ∷ ss) = holds s + rooms holds ss

-- and a merger: those that wait, or else the bracket
abbrev pub merger_room : {I : Type 0} → (I → ℕ) → List I → Bracket I → ℕ
merger_room holds [] b = room holds b
merger_room holds (s ∷ ss) b = rooms holds (s ∷ ss)

-- some of the streams entered the draw that a bracket tells, and the others are told by the sources that are left
pub record Halfway {I : Type 0} (tells : I → Option (List Fragment)) (tops : I → Option Deletion) (b : Bracket I) (rest : List I)
    (all : List Stream) : Type 0 where
  pub drawn : Draw
  pub others : List Stream
  pub bracket : Tells tells tops b drawn
  pub told : streams_told tells tops rest ≡ Some others
  pub whole : fold entered drawn others ≡ draw all
