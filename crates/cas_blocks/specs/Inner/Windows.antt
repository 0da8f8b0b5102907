-- What is still to come of a slice (own).
use Rattle.std.specs.Prelude.{◌≡◌, ℕ, ◌+◌, List, [], ◌∷◌, length, ◌++◌, Option, None, Some, Result, Ok}
use Rattle.std.specs.Option.{option_map, option_to_list}
use Rattle.cas_cell.specs.declared.deletion.Deletion.{Deletion}
use Rattle.cas_bounds.specs.declared.order.Ordered.{Ordered}
use Rattle.cas_bounds.specs.declared.cuts.Slice.{Slice}
use Rattle.cas_atoms.specs.declared.row.RowColumn.{RowColumn}
use Rattle.cas_streams.specs.Sources.{TakesFirst}
use Rattle.cas_streams.specs.Slices.{opened_at, closed_at}
use Rattle.cas_streams.specs.declared.fragment.Fragment.{Fragment}
use Rattle.cas_streams.specs.declared.fragment.Fragment.TheVariants as fragment
use Rattle.cas_blocks.specs.Cutting.{cut_from, up_to_end}
use Rattle.cas_types.specs.declared.schema.Column.{Column}
use Rattle.cas_blocks.specs.Inner.Pieces.{left_of, room_of}
use Rattle.cas_blocks.specs.declared.fault.TableFault.{TableFault}
use Rattle.cas_blocks.specs.declared.window.Window.{Window}
use Rattle.cas_blocks.specs.declared.window.Phase.{Phase}
use Rattle.cas_blocks.specs.declared.window.Phase.TheVariants.{Before, Inside, Over}

-- before the slice, in it, where a fragment may be read ahead, and behind it
abbrev pub window : List Ordered → Slice → Phase → Option Deletion → Option Fragment → Option (List Fragment) → Option (List Fragment)
window order s Before force ahead left = option_map (cut_from order s force) left
window order s Inside force ahead left = option_map (λ fs. up_to_end order s force (option_to_list ahead ++ fs)) left
window order s Over force ahead left = Some []

abbrev pub window_room : Phase → Option Fragment → ℕ → ℕ
window_room Before ahead room = 2 + room
window_room Inside ahead room = 1 + length (option_to_list ahead) + room
window_room Over ahead room = 0

-- what is to come of the slice that a window is of, where the file tells its bytes
abbrev pub slice_left : List Ordered → List Column → ℕ → Option (List ℕ) → Window → Option (List Fragment)
slice_left order columns end contents w = window order w.slice w.phase w.force w.ahead (left_of order columns end contents w.pieces)

abbrev pub slice_room : ℕ → Window → ℕ
slice_room end w = window_room w.phase w.ahead (room_of end w.pieces)

-- static columns that are still to be given
abbrev pub static_part : Option (List RowColumn) → List Fragment
static_part None = []
static_part (Some cs) = fragment.Static cs ∷ []

abbrev pub behind_static : Option (List RowColumn) → Option (List Fragment) → Option (List Fragment)
behind_static statics left = option_map (λ fs. static_part statics ++ fs) left

-- what a way to the slice's beginning found: the fragment behind it, and what is left behind that
pub record Begun (order : List Ordered) (s : Slice) (force now : Option Deletion) (fs : List Fragment) (ahead : Option Fragment)
    (left : Option (List Fragment)) : Type 0 where
  pub rest : List Fragment
  pub left_is : left ≡ Some rest
  pub same : cut_from order s force fs ≡ opened_at s.lo now ++ up_to_end order s now (option_to_list ahead ++ rest)

-- what comes next on a way to the slice's beginning, where the deletion in force by then is told
abbrev pub Comes : List Ordered → Slice → Option Deletion → Option Deletion → List Fragment → Option Fragment → Option (List Fragment) → Type 0
Comes order s force now fs next left =
    (gs : List Fragment) × (cut_from order s force fs ≡ cut_from order s now gs)
    × TakesFirst gs left (let r : Result (Option Fragment) TableFault = Ok next in r)

-- what a way into the slice gave, and what is to come behind that
pub record Enters (fs : List Fragment) (given : Option Fragment) (left : Option (List Fragment)) : Type 0 where
  pub rest : List Fragment
  pub left_is : left ≡ Some rest
  pub same : fs ≡ option_to_list given ++ rest

-- the next fragment before the slice's end; none where what is in force is to be closed
abbrev pub GoesOn : List Ordered → Slice → Option Deletion → Option Deletion → List Fragment → Option Fragment → Option (List Fragment) → Type 0
GoesOn order s force now fs None left = up_to_end order s force fs ≡ closed_at s.hi now
GoesOn order s force now fs (Some f) left =
    (rest : List Fragment) × (left ≡ Some rest) × (up_to_end order s force fs ≡ f ∷ up_to_end order s now rest)
