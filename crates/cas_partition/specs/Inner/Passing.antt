-- Rows and marks on their way into one stream, and what is left of them (own).
use Rattle.std.specs.Prelude.{Bool, true, false, not, is_none, ◌&&◌, Option, None, Some, List, [], ◌∷◌, map}
use Rattle.std.specs.List.{list_all, cons_option}
use Rattle.std.specs.Ordering.{is_gt}
use denote.Ref.{Bor}
use Rattle.cas_cell.specs.Lives.{live_at}
use Rattle.cas_cell.specs.Cells.{cell_at}
use Rattle.cas_cell.specs.declared.cell.Cell.{Cell}
use Rattle.cas_cell.specs.declared.deletion.Deletion.{Deletion}
use Rattle.cas_bounds.specs.Points.{point_cmp, row_point, cut_point}
use Rattle.cas_bounds.specs.declared.map_key.MapKey.{MapKey}
use Rattle.cas_atoms.specs.Winners.{standing}
use Rattle.cas_streams.specs.Joined.{by_place}
use Rattle.cas_streams.specs.Settled.{is_bare, left_of, settled_from}
use Rattle.cas_streams.specs.Weaving.{woven}
use Rattle.cas_streams.specs.declared.fragment.Fragment.{Fragment}
use Rattle.cas_streams.specs.declared.fragment.Fragment.TheVariants as fragment
use Rattle.cas_partition.specs.Inner.Rows.{Said, RowsOf, has_none}
use Rattle.cas_partition.specs.Inner.Pieces.{fragment_of}
use Rattle.cas_partition.specs.Inner.Slots.{cut_of}
use Rattle.cas_partition.specs.declared.spot.Content.{Content}

-- a cut whose key is lent, and what is in force from it on; as a marker
abbrev pub LentMark : Type 0
LentMark = Bor MapKey × Option Deletion

abbrev pub lent_marker : LentMark → Fragment
lent_marker m = fragment.Marker (cut_of m.0.now) m.1

-- a mark whose key is kept; as a marker
abbrev pub OwnMark : Type 0
OwnMark = MapKey × Option Deletion

abbrev pub own_marker : OwnMark → Fragment
own_marker m = fragment.Marker (cut_of m.0) m.1

-- the cut stands before the row; nothing does before the static row
abbrev pub is_first : MapKey → Option MapKey → Bool
is_first m None = false
is_first m (Some k) = is_gt (point_cmp k.order (row_point k.values) (cut_point (cut_of m)))

-- a mark comes next, and no row; of a row without places nothing comes
abbrev pub is_mark_next : List OwnMark → RowsOf → Bool
is_mark_next [] rows = false
is_mark_next (m ∷ ms) [] = true
is_mark_next (m ∷ ms) (r ∷ rows) = not (has_none r.1) && is_first m.0 r.0

-- ---- what would be left

-- no cell would be left under the deletion
abbrev pub is_cell_hidden : Option Deletion → Option Cell → Bool
is_cell_hidden over None = true
is_cell_hidden over (Some c) = not (is_bare over (cell_at c))

-- nothing of what is said at a place of a row
abbrev pub is_hidden : Option Deletion → Content → Bool
is_hidden over c = is_none c.deletion && (is_none (standing live_at over c.live) && is_cell_hidden over c.cell)

-- at none of these
abbrev pub all_hidden : Option Deletion → Said → Bool
all_hidden over es = list_all (λ e. is_hidden over e.1) es

-- ---- what comes

-- what is left of a row that may be none
abbrev pub left_in : Option Deletion → Option Deletion → Option Fragment → Option Fragment
left_in top now None = None
left_in top now (Some f) = left_of top now f

-- the rows of which something is said
abbrev pub fragments_of : RowsOf → List Fragment
fragments_of [] = []
fragments_of (r ∷ rows) = cons_option (fragment_of r.0 r.1) (fragments_of rows)

-- these rows and the markers among them, where that is in force: what is left of them
abbrev pub left_to_come : Option Deletion → Option Deletion → RowsOf → List Fragment → List Fragment
left_to_come top now rows ms = settled_from top now (woven by_place (record { left = None; right = now }) (fragments_of rows) ms)

-- the same as what a source tells
unfoldable pub told : Option Deletion → Option Deletion → RowsOf → List OwnMark → Option (List Fragment)
told top now rows ms = Some (left_to_come top now rows (map own_marker ms))
