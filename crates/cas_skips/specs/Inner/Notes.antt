-- What is noted of where the fragments behind a cut begin (own).
use Rattle.std.specs.Prelude.{◌≡◌, ℕ, zero, suc, ◌-◌, ◌≤◌, ◌==◌, false, if◌then◌else◌, List, length, Option, None, Some, Ok}
use Rattle.std.specs.Ordering.{is_lt}
use Rattle.cas_types.specs.declared.schema.Column.{Column}
use Rattle.cas_cell.specs.declared.deletion.Deletion.{Deletion}
use Rattle.cas_bounds.specs.Points.{cut_point}
use Rattle.cas_bounds.specs.declared.cuts.Cut.{Cut}
use Rattle.cas_bounds.specs.declared.order.Ordered.{Ordered}
use Rattle.cas_codec.specs.Reading.{Left}
use Rattle.cas_streams.specs.Joined.{opened}
use Rattle.cas_streams.specs.Places.{Place, place_cmp}
use Rattle.cas_streams.specs.declared.fragment.Fragment.{Fragment}
use Rattle.cas_fragments.specs.Reading.{fragment_at}
use Rattle.cas_skips.specs.Blocks.{spelled, is_beyond, skipped}
use Rattle.cas_skips.specs.Inner.Stops.{left_from, IsKept, IsFurther}
use Rattle.cas_skips.specs.declared.notes.Spot.{Spot}
use Rattle.cas_skips.specs.declared.notes.Note.{Note}

-- the values of the prefix of the cut that is looked for, if one is
abbrev pub ArePrefix : Option Cut → List (List ℕ) → Type 0
ArePrefix None values = Unit {0}
ArePrefix (Some cut) values = values ≡ cut.prefix

-- the spot that was found before, or else this one, if what stands there is behind the cut that is looked for
abbrev pub found : List Ordered → Option Cut → Option Spot → Spot → Place → Option Spot
found order None so_far here place = so_far
found order (Some cut) (Some spot) here place = Some spot
found order (Some cut) None here place = if is_lt (place_cmp order (Some (cut_point cut)) place) then Some here else None

-- so many fragments stand one after another, none of them behind the cut: from where one deletion is in force to where another is
abbrev pub ArePassed : List Ordered → List Column → Cut → ℕ → Option Deletion → Left → Option Deletion → Left → Type 0
ArePassed order columns cut zero now old force new = (now ≡ force) × (old ≡ new)
ArePassed order columns cut (suc n) now old force new =
    (f : Fragment) × (next : Left) × (fragment_at order columns old ≡ Ok (f, next)) × (is_beyond order cut f ≡ false) × IsFurther old next
    × ArePassed order columns cut n (opened now f) next force new

-- the spot is where those of so many fragments begin that are behind the cut
pub record IsSpot (order : List Ordered) (columns : List Column) (cut : Cut) (force : Option Deletion) (start : Left) (count : ℕ) (spot : Spot) : Type 0 where
  pub at : Left
  pub some : spot.before ≤ count
  pub long : spot.left ≡ length at.bytes
  pub passed : ArePassed order columns cut spot.before force start spot.force at
  pub stands : (n : ℕ) → skipped order cut spot.force (spelled order columns n at) ≡ (spot.force, spelled order columns n at)

-- what is known behind so many fragments, where a cut is looked for: where those behind it begin, or else that none is yet
abbrev pub IsSought : List Ordered → List Column → Option Cut → Option Deletion → Left → ℕ → Option Deletion → Left → Option Spot → Type 0
IsSought order columns None force start count now left spot = Unit {0}
IsSought order columns (Some cut) force start count now left None = ArePassed order columns cut count force start now left
IsSought order columns (Some cut) force start count now left (Some spot) = IsSpot order columns cut force start count spot

-- the note says where those behind its cut begin
abbrev pub IsNoted : List Ordered → List Column → Left → ℕ → Option Note → Type 0
IsNoted order columns start count None = Unit {0}
IsNoted order columns start count (Some note) = IsSpot order columns note.cut note.force start count note.spot

-- the note is of that cut, deletion and spot
abbrev pub IsNoteOf : Option Cut → Option Deletion → Option Spot → Option Note → Type 0
IsNoteOf low force spot None = Unit {0}
IsNoteOf low force spot (Some note) = (low ≡ Some note.cut) × (note.force ≡ force) × (spot ≡ Some note.spot)

-- the note, counted from behind the first fragment; none, if its spot is the first one's
abbrev pub note_behind : Option Note → Fragment → Option Note
note_behind None first = None
note_behind (Some note) first = if note.spot.before == 0 then None else
    Some (record {
      cut = note.cut;
      force = opened note.force first;
      spot = record { before = note.spot.before - 1; left = note.spot.left; force = note.spot.force };
    })

-- the spot is noted of the place of that cut, in that order, and where that deletion is in force
abbrev pub IsOfSkip : Option Note → List Ordered → List Ordered → Cut → Option Deletion → Spot → Type 0
IsOfSkip None own order cut force spot = ⊥
IsOfSkip (Some note) own order cut force spot =
    (cut_point note.cut ≡ cut_point cut) × (note.force ≡ force) × (own ≡ order) × (spot ≡ note.spot)

-- bytes of a table that may be read on, and what is noted of the fragments that they spell
pub record IsHeld (order : List Ordered) (columns : List Column) (bytes : List ℕ) (place taken count : ℕ) (note : Option Note) : Type 0 where
  pub kept : IsKept order columns bytes place taken
  pub noted : IsNoted order columns (left_from bytes place taken) count note
