-- Fragments cut to a slice one after another, from the middle of a partition on: what comes before them is known by the range deletion in force there.
-- CQL documentation, "Data manipulation: SELECT; WHERE"; own.
use Rattle.std.specs.Prelude.{Bool, Option, Some, List, [], ◌∷◌, ◌++◌, if◌then◌else◌}
use Rattle.std.specs.Ordering.{is_lt}
use Rattle.cas_cell.specs.declared.deletion.Deletion.{Deletion}
use Rattle.cas_bounds.specs.Points.{cut_point}
use Rattle.cas_bounds.specs.declared.order.Ordered.{Ordered}
use Rattle.cas_bounds.specs.declared.cuts.Cut.{Cut}
use Rattle.cas_bounds.specs.declared.cuts.Slice.{Slice}
use Rattle.cas_streams.specs.Places.{place_of, place_cmp}
use Rattle.cas_streams.specs.Joined.{opened}
use Rattle.cas_streams.specs.Slices.{opened_at, closed_at}
use Rattle.cas_streams.specs.declared.fragment.Fragment.{Fragment}

-- the fragment stands behind the cut; one that stands at it doesn't
abbrev pub is_behind : List Ordered → Cut → Fragment → Bool
is_behind order cut f = is_lt (place_cmp order (Some (cut_point cut)) (place_of f))

-- the fragment stands before the cut
abbrev pub is_before : List Ordered → Cut → Fragment → Bool
is_before order cut f = is_lt (place_cmp order (place_of f) (Some (cut_point cut)))

-- fragments behind the slice's low cut, where `now` is in force: those before the high one, where what is in force then is closed
abbrev pub up_to_end : List Ordered → Slice → Option Deletion → List Fragment → List Fragment
up_to_end order s now [] = closed_at s.hi now
up_to_end order s now (f ∷ fs) = if is_before order s.hi f then f ∷ up_to_end order s (opened now f) fs else closed_at s.hi now

-- fragments before which `now` is in force, cut to the slice: it begins with what is in force at its low cut
abbrev pub cut_from : List Ordered → Slice → Option Deletion → List Fragment → List Fragment
cut_from order s now [] = opened_at s.lo now ++ up_to_end order s now []
cut_from order s now (f ∷ fs) =
    if is_behind order s.lo f then opened_at s.lo now ++ up_to_end order s now (f ∷ fs) else cut_from order s (opened now f) fs
