-- What of the notes only the journal's own calls ask. Own.
use Rattle.std.specs.Prelude.{◌≡◌, ◌<◌, ℕ, List, [], ◌∷◌}
use Rattle.cas_atoms.specs.declared.atom.Mutation.{Mutation}
use Rattle.cas_changes.specs.Saying.{Saying}
use Rattle.cas_replay.specs.Tops.{place_in, number_at, top_at, IsCovered}
use Rattle.cas_journal.specs.Stores.{Found}
use Rattle.cas_journal.specs.Notes.{IsNoted, Noted, HasRoom, HasSpace}
use Rattle.cas_journal.specs.declared.notes.Note.{Note}
use Rattle.cas_journal.specs.declared.notes.Notes.{Notes}

-- those that were noted stay so
abbrev pub StayNoted : Notes → Notes → Type 0
StayNoted before now = (found : Found) (s : Saying) (parts : List (List Mutation)) → Noted before found s parts → Noted now found s parts

-- there is room for one segment more, and to note a mutation in it
abbrev pub HasNext : Notes → Mutation → Type 0
HasNext notes m = HasSpace notes × HasRoom notes.next (place_in notes.shards m)

-- the first segment, which isn't the last, has this number, and all that is noted of it is at or below these frontiers
abbrev pub IsFirstCovered : List Note → List ℕ → ℕ → Type 0
IsFirstCovered [] frontiers number = ⊥
IsFirstCovered (n ∷ []) frontiers number = ⊥
IsFirstCovered (n ∷ next ∷ notes) frontiers number = (n.segment ≡ number) × IsCovered n.tops frontiers

-- the first segment is the last, or something that is noted of it is above these frontiers; or there is none
abbrev pub IsFirstAbove : List Note → List ℕ → Type 0
IsFirstAbove [] frontiers = Unit {0}
IsFirstAbove (n ∷ []) frontiers = Unit {0}
IsFirstAbove (n ∷ next ∷ notes) frontiers = (place : ℕ) × (number_at frontiers place < top_at n.tops place)

-- these mutations are noted with the first segment
abbrev pub IsFirstNoted : ℕ → Found → List Note → List Mutation → Type 0
IsFirstNoted shards found [] ms = ⊥
IsFirstNoted shards found (n ∷ notes) ms = IsNoted shards found n ms
