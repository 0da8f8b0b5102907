-- What is noted of the segments that are listed. Own.
use Rattle.std.specs.Prelude.{◌≡◌, ◌<◌, ℕ, if◌then◌else◌, List, [], ◌∷◌, ◌++◌, length, map}
use Rattle.std.specs.Vec.{vec_len, vec_capacity}
use Rattle.cas_atoms.specs.declared.atom.Mutation.{Mutation}
use Rattle.cas_changes.specs.Saying.{Saying, is_listed}
use Rattle.cas_replay.specs.declared.tops.Tops.{Tops}
use Rattle.cas_replay.specs.Tops.{place_in, top_at, AreNoted, AreTopsOf}
use Rattle.cas_journal.specs.Stores.{Found}
use Rattle.cas_journal.specs.declared.notes.Note.{Note}
use Rattle.cas_journal.specs.declared.notes.Notes.{Notes}

-- the mutations that are noted with a segment that has these: all that were found, where it was found when the store was opened, and its own
abbrev pub noted_with : Found → ℕ → List Mutation → List Mutation
noted_with found segment ms = (if is_listed found.segments segment then found.mutations else []) ++ ms

-- Each mutation of the segment is noted, and each number that is noted is that of one which is noted with it, or 0.
pub record IsNoted (shards : ℕ) (found : Found) (n : Note) (ms : List Mutation) : Type 0 where
  pub noted : AreNoted shards n.tops ms
  pub exact : AreTopsOf shards n.tops (noted_with found n.segment ms)

-- the mutations of each segment are noted, in a store of so many shards
abbrev pub EachNoted : ℕ → Found → List Note → List (List Mutation) → Type 0
EachNoted shards found [] [] = Unit {0}
EachNoted shards found (n ∷ notes) (ms ∷ parts) = IsNoted shards found n ms × EachNoted shards found notes parts
EachNoted shards found [] (ms ∷ parts) = ⊥
EachNoted shards found (n ∷ notes) [] = ⊥

-- The segments of these numbers are noted, with their mutations, and nothing is noted of the next.
pub record Know (notes : Notes) (found : Found) (segments : List ℕ) (parts : List (List Mutation)) : Type 0 where
  pub numbers : map (λ n. n.segment) notes.list.items ≡ segments
  pub noted : EachNoted notes.shards found notes.list.items parts
  pub next : (place : ℕ) → top_at notes.next place ≡ 0

-- the segments that the manifest lists are noted, with their mutations
abbrev pub Noted : Notes → Found → Saying → List (List Mutation) → Type 0
Noted notes found s parts = (notes.shards ≡ s.shards) × Know notes found s.segments parts

-- there is room at a place
abbrev pub HasRoom : Tops → ℕ → Type 0
HasRoom tops place = place < length tops.numbers.items

-- there is room at a place of the last of these, where there is one
abbrev pub HasRoomIn : List Note → ℕ → Type 0
HasRoomIn [] place = Unit {0}
HasRoomIn (n ∷ []) place = HasRoom n.tops place
HasRoomIn (n ∷ next ∷ notes) place = HasRoomIn (next ∷ notes) place

-- there is room to note a mutation in the last segment
abbrev pub HasPlace : Notes → Mutation → Type 0
HasPlace notes m = HasRoomIn notes.list.items (place_in notes.shards m)

-- there is room for one segment more
abbrev pub HasSpace : Notes → Type 0
HasSpace notes = vec_len notes.list < vec_capacity notes.list
