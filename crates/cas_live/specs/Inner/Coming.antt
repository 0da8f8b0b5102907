-- The live rows that are still to come of a source (own).
use Rattle.std.specs.Prelude.{◌≡◌, ℕ, ◌+◌, Bool, true, false, Option, None, Some, List, [], ◌∷◌, ◌++◌, length, reverse, nat_le, Result, Ok, Err}
use Rattle.std.specs.Option.{option_map, option_to_list}
use Rattle.cas_cell.specs.declared.deletion.Deletion.{Deletion}
use Rattle.cas_atoms.specs.Answers.{turned, limited}
use Rattle.cas_atoms.specs.declared.atom.Atom.{Atom}
use Rattle.cas_atoms.specs.declared.atom.Atom.TheVariants.{PartitionDeletion}
use Rattle.cas_atoms.specs.declared.query.LiveRow.{LiveRow}
use Rattle.cas_streams.specs.Flat.{atom_of}
use Rattle.cas_streams.specs.declared.fragment.Fragment.{Fragment}
use Rattle.cas_live.specs.Views.{or_static}
use Rattle.cas_live.specs.Walks.{walk, shared_after}
use Rattle.cas_live.specs.declared.viewer.Viewer.{Viewer}
use Rattle.cas_live.specs.declared.live_rows.Stage.{Stage}
use Rattle.cas_live.specs.declared.live_rows.Stage.TheVariants.{Unasked, Coming, Kept}

-- the rows of fragments to come, by what rows share so far
abbrev pub rows_by : Viewer → List Atom → List Fragment → List LiveRow
rows_by v all fs = walk v.query v.moment all v.in_force fs

-- the rows that a viewer on its way gives of fragments to come, and what rows share at their end
abbrev pub rows_ahead : Viewer → List Fragment → List LiveRow
rows_ahead v fs = rows_by v v.shared.items fs

abbrev pub shared_at_end : Viewer → List Fragment → List Atom
shared_at_end v fs = shared_after v.shared.items fs

-- rows, or where there is none and none was given before, the static row
abbrev pub or_alone : Bool → Viewer → List Atom → List LiveRow → List LiveRow
or_alone true v all rows = rows
or_alone false v all rows = or_static v.query v.moment all rows

-- what rows share so far: where nothing was asked for yet, the deletion of the whole comes next
abbrev pub told_so_far : Option Deletion → Stage → Viewer → List Atom
told_so_far top Unasked v = v.shared.items ++ atom_of PartitionDeletion top
told_so_far top (Coming given) v = v.shared.items
told_so_far top (Kept rows) v = v.shared.items

-- the rows of a partition from its beginning, in the order that the query wants
abbrev pub all_rows : Option Deletion → Viewer → List Fragment → List LiveRow
all_rows top v fs =
    or_static v.query v.moment (shared_after (v.shared.items ++ atom_of PartitionDeletion top) fs)
    (turned v.query.reversed (rows_by v (v.shared.items ++ atom_of PartitionDeletion top) fs))

-- the rows to come, whatever the limit
abbrev pub rows_of_stage : Option Deletion → Stage → Viewer → Option (List Fragment) → Option (List LiveRow)
rows_of_stage top Unasked v told = option_map (all_rows top v) told
rows_of_stage top (Coming given) v told = option_map (λ fs. or_alone given v (shared_at_end v fs) (rows_ahead v fs)) told
rows_of_stage top (Kept rows) v told = Some (reverse rows.items)

-- the rows to come, of a source that tells what it gives: as many at most as are wanted
abbrev pub rows_to_come : Option Deletion → Option ℕ → Stage → Viewer → Option (List Fragment) → Option (List LiveRow)
rows_to_come top wanted stage v told = option_map (limited wanted) (rows_of_stage top stage v told)

-- so many rows are as many as are wanted
abbrev pub is_full : Option ℕ → ℕ → Bool
is_full None count = false
is_full (Some n) count = nat_le n count

-- how many rows come at most of a source that gives so many fragments
abbrev pub rows_left : Stage → ℕ → ℕ
rows_left Unasked n = n + 1
rows_left (Coming given) n = n + 1
rows_left (Kept rows) n = length rows.items

-- something was asked for
abbrev pub HasBegun : Stage → Type 0
HasBegun Unasked = ⊥
HasBegun (Coming given) = Unit {0}
HasBegun (Kept rows) = Unit {0}

-- of these fragments some were read: such that show no row, and one more at most
pub record ReadsToARow (v : Viewer) (all : List Atom) (fs : List Fragment) (after : Option (List Fragment)) : Type 0 where
  pub silent : List Fragment
  pub last : Option Fragment
  pub rest : List Fragment
  pub whole : fs ≡ silent ++ (option_to_list last ++ rest)
  pub shows_none : rows_by v all silent ≡ []
  pub left : after ≡ Some rest

-- a fragment among these shows the row, those before it none, and the others are to come
pub record ShowsRow (v : Viewer) (fs : List Fragment) (w : Viewer) (after : Option (List Fragment)) (r : LiveRow) : Type 0 where
  pub rest : List Fragment
  pub left : after ≡ Some rest
  pub read : ReadsToARow v v.shared.items fs after
  pub rows : rows_ahead v fs ≡ r ∷ rows_ahead w rest
  pub shared : shared_at_end v fs ≡ shared_at_end w rest

-- the next row of fragments to come, or that they show none
abbrev pub ShowsNext : {E : Type 0} → Viewer → List Fragment → Viewer → Option (List Fragment) → Result (Option LiveRow) E → Type 0
ShowsNext v fs w after (Err e) = Unit {0}
ShowsNext v fs w after (Ok None) = (rows_ahead v fs ≡ []) × (after ≡ Some []) × (shared_at_end v fs ≡ w.shared.items)
ShowsNext v fs w after (Ok (Some r)) = ShowsRow v fs w after r

-- the last of the rows that were kept, or that none was
abbrev pub TakesLast : List LiveRow → List LiveRow → Option LiveRow → Type 0
TakesLast before after None = (before ≡ []) × (after ≡ [])
TakesLast before after (Some r) = reverse before ≡ r ∷ reverse after
