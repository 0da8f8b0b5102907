-- The range deletions of a partition as changes of what is in force, from cut to cut.
-- CQL documentation, "Data manipulation: DELETE"; Cassandra documentation, "Operating: Compaction, tombstones"; that a cut may change nothing is own.
use Rattle.std.specs.Prelude.{Bool, false, not, ◌&&◌, ◌||◌, Option, None, Some, List, [], ◌∷◌, ◌++◌, filter, if◌then◌else◌}
use Rattle.std.specs.Ordering.{is_eq, is_le, is_lt}
use Rattle.cas_cell.specs.Deletions.{deletion_cmp}
use Rattle.cas_cell.specs.declared.deletion.Deletion.{Deletion}
use Rattle.cas_bounds.specs.Keys.{key_cmp}
use Rattle.cas_bounds.specs.Points.{side}
use Rattle.cas_bounds.specs.declared.cuts.Cut.{Cut}
use Rattle.cas_bounds.specs.declared.cuts.Slice.{Slice}
use Rattle.cas_bounds.specs.declared.map_key.MapKey.{MapKey}
use Rattle.cas_atoms.specs.Greatest.{greater}
use Rattle.cas_streams.specs.Flat.{Change, after}

-- a cut as the key of a map
abbrev pub key_of : Cut → MapKey
key_of c = record { values = c.prefix; end = side c.after; order = c.order }

-- a cut stands at the low one or above it, and below the high one
abbrev pub lies : Cut → Cut → Cut → Bool
lies lo hi c = is_le (key_cmp (key_of lo) (key_of c)) && not (is_le (key_cmp (key_of hi) (key_of c)))

-- the changes, where from the cuts that pass a test on at least that deletion is in force
abbrev pub raised : (Cut → Bool) → Deletion → List Change → List Change
raised passes d [] = []
raised passes d (m ∷ ms) =
    record { at = m.at; to = if passes m.at then greater deletion_cmp m.to (Some d) else m.to } ∷ raised passes d ms

-- one of the changes is at the cut
abbrev pub has_cut : Cut → List Change → Bool
has_cut c [] = false
has_cut c (m ∷ ms) = is_eq (key_cmp (key_of c) (key_of m.at)) || has_cut c ms

-- one more change at a cut, in its place among the others: before them `now` is in force, and it changes nothing
abbrev pub inserted : Option Deletion → Cut → List Change → List Change
inserted now c [] = record { at = c; to = now } ∷ []
inserted now c (m ∷ ms) = if is_lt (key_cmp (key_of c) (key_of m.at)) then record { at = c; to = now } ∷ m ∷ ms else m ∷ inserted m.to c ms

-- the changes, with one at the cut in any case
abbrev pub with_cut : Cut → List Change → List Change
with_cut c ms = if has_cut c ms then ms else inserted None c ms

-- ---- in a slice

-- a cut stands above the low one
abbrev pub is_above : Cut → Cut → Bool
is_above lo c = is_lt (key_cmp (key_of lo) (key_of c))

-- a cut stands below the high one, or at it
abbrev pub is_below : Cut → Cut → Bool
is_below hi c = not (is_le (key_cmp (key_of hi) (key_of c)))

-- a change at the cut, where a deletion is in force
abbrev pub change_at : Cut → Option Deletion → Option Deletion → List Change
change_at c None to = []
change_at c (Some d) to = record { at = c; to = to } ∷ []

-- the changes in a slice: it begins with the deletion in force right behind its low cut, and ends what is in force right before its high cut
abbrev pub clipped : Slice → List Change → List Change
clipped s ms =
    if is_above s.lo s.hi then
    change_at s.lo (after (λ c. not (is_above s.lo c)) None ms) (after (λ c. not (is_above s.lo c)) None ms)
    ++ (filter (λ m. is_above s.lo m.at && is_below s.hi m.at) ms ++ change_at s.hi (after (is_below s.hi) None ms) None)
    else []
