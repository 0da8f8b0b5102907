-- What is told of a fragment that is passed over.
-- Own.
use Rattle.std.specs.Prelude.{Bool, true, ◌&&◌, not, List, Option, None, Some}
use Rattle.std.specs.Ordering.{is_lt}
use Rattle.cas_cell.specs.declared.deletion.Deletion.{Deletion}
use Rattle.cas_bounds.specs.Points.{row_point, cut_point}
use Rattle.cas_bounds.specs.declared.order.Ordered.{Ordered}
use Rattle.cas_streams.specs.Places.{Place, place_cmp}
use Rattle.cas_streams.specs.Settled.{same_force}
use Rattle.cas_streams.specs.declared.fragment.Fragment.{Fragment}
use Rattle.cas_streams.specs.declared.fragment.Fragment.TheVariants as fragment
use Rattle.cas_fragments.specs.Blocks.{Reached}

-- where a fragment stands, and, of a marker, the range deletion that is in force from there on, or that none is
pub record Mark : Type 0 where
  pub place : Place
  pub opens : Option (Option Deletion)

-- the mark of a fragment: static columns stand nowhere, a row at its clustering, a marker at its cut
abbrev pub mark_of : Fragment → Mark
mark_of (fragment.Static columns) = record { place = None; opens = None }
mark_of (fragment.Row r) = record { place = Some (row_point r.clustering.values); opens = None }
mark_of (fragment.Marker cut d) = record { place = Some (cut_point cut); opens = Some d }

-- what is in force behind it
abbrev pub force_behind : Option Deletion → Option (Option Deletion) → Option Deletion
force_behind now None = now
force_behind now (Some d) = d

-- it changes what is in force, if it is a marker
abbrev pub changes : Option Deletion → Option (Option Deletion) → Bool
changes now None = true
changes now (Some d) = not (same_force now d)

-- it may stand there
abbrev pub may_stand : List Ordered → Reached → Mark → Bool
may_stand order r m = is_lt (place_cmp order r.last m.place) && changes r.force m.opens

-- one fragment further
abbrev pub past_mark : Reached → Mark → Reached
past_mark r m = record { last = m.place; force = force_behind r.force m.opens }
