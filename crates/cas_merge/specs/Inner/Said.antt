-- Whether something is said of columns (own).
use Rattle.std.specs.Prelude.{Bool, true, false, not, ◌&&◌, ◌||◌, Option, None, Some, is_some, List, [], ◌∷◌, Result, Ok, Err}
use Rattle.cas_cell.specs.Cells.{cell_at}
use Rattle.cas_cell.specs.Deletions.{deletion_cmp}
use Rattle.cas_cell.specs.Lives.{live_at}
use Rattle.cas_cell.specs.declared.deletion.Deletion.{Deletion}
use Rattle.cas_cell.specs.declared.liveness.Liveness.{Liveness}
use Rattle.cas_atoms.specs.Greatest.{greater}
use Rattle.cas_atoms.specs.declared.row.Row.{Row}
use Rattle.cas_atoms.specs.declared.row.RowColumn.{RowColumn}
use Rattle.cas_atoms.specs.declared.row.PathCell.{PathCell}
use Rattle.cas_streams.specs.Settled.{is_bare, same_force}
use Rattle.cas_streams.specs.Joined.{opened}
use Rattle.cas_streams.specs.declared.fragment.Fragment.{Fragment}
use Rattle.cas_streams.specs.declared.fragment.Fragment.TheVariants as fragment

-- a deletion or a cell
abbrev pub says : Option Deletion → List PathCell → Bool
says (Some d) cells = true
says None [] = false
says None (c ∷ cells) = true

-- of one of the columns
abbrev pub any_says : List RowColumn → Bool
any_says [] = false
any_says (c ∷ cs) = says c.deletion c.cells || any_says cs

-- ---- columns that stay as they are

-- none of the cells is covered
abbrev pub all_bare : Option Deletion → List PathCell → Bool
all_bare over [] = true
all_bare over (p ∷ ps) = is_bare over (cell_at p.cell) && all_bare over ps

-- cells, none of which is covered, and no deletion
abbrev pub stays : Option Deletion → Option Deletion → List PathCell → Bool
stays over (Some d) cells = false
stays over None [] = false
stays over None (p ∷ ps) = all_bare over (p ∷ ps)

-- in each of the columns
abbrev pub all_stay : Option Deletion → List RowColumn → Bool
all_stay over [] = true
all_stay over (c ∷ cs) = stays over c.deletion c.cells && all_stay over cs

-- a liveness that isn't covered, or none
abbrev pub live_stays : Option Deletion → Option Liveness → Bool
live_stays over None = true
live_stays over (Some l) = is_bare over (live_at l)

-- something is said of the row
abbrev pub row_says : Row → Bool
row_says r = is_some r.deletion || (is_some r.live || any_says r.columns)

-- what is said of the row all stays under a deletion
abbrev pub row_stays : Option Deletion → Row → Bool
row_stays over r =
    (live_stays (greater deletion_cmp over r.deletion) r.live && all_stay (greater deletion_cmp over r.deletion) r.columns) && row_says r

-- the fragment is a row that stays as it is under the top and what is in force, or a marker that changes that
abbrev pub is_left_whole : Option Deletion → Option Deletion → Fragment → Bool
is_left_whole top now (fragment.Static cs) = false
is_left_whole top now (fragment.Row r) = row_stays (greater deletion_cmp top now) r
is_left_whole top now (fragment.Marker cut d) = not (same_force now d)

-- what came next goes on as it is: a fault, the end, or a fragment of which all is left
abbrev pub goes_whole : {E : Type 0} → Option Deletion → Option Deletion → Result (Option Fragment) E → Bool
goes_whole top now (Err e) = true
goes_whole top now (Ok None) = true
goes_whole top now (Ok (Some f)) = is_left_whole top now f

-- what is in force behind it
abbrev pub opened_by : {E : Type 0} → Option Deletion → Result (Option Fragment) E → Option Deletion
opened_by now (Err e) = now
opened_by now (Ok None) = now
opened_by now (Ok (Some f)) = opened now f
