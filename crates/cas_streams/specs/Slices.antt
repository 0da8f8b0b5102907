-- The part of a stream that lies in a slice.
-- CQL documentation, "Data manipulation: SELECT; WHERE" and "Data definition: static columns"; own.
use Rattle.std.specs.Prelude.{◌≡◌, Bool, true, false, not, ◌&&◌, Option, None, Some, List, [], ◌∷◌, ◌++◌, filter, if◌then◌else◌}
use Rattle.std.specs.Ordering.{is_lt}
use Rattle.cas_cell.specs.declared.deletion.Deletion.{Deletion}
use Rattle.cas_bounds.specs.Cuts.{is_inside, cut_cmp}
use Rattle.cas_bounds.specs.declared.cuts.Cut.{Cut}
use Rattle.cas_bounds.specs.declared.cuts.Slice.{Slice}
use Rattle.cas_bounds.specs.declared.order.Ordered.{Ordered}
use Rattle.cas_streams.specs.Flat.{changes, after}
use Rattle.cas_streams.specs.declared.fragment.Fragment.{Fragment}
use Rattle.cas_streams.specs.declared.fragment.Fragment.TheVariants as fragment

-- the first cut stands before the second
abbrev pub stands_before : Cut → Cut → Bool
stands_before a b = is_lt (cut_cmp a b)

-- a slice of a table that orders its rows so
pub record IsSliceOf (order : List Ordered) (s : Slice) : Type 0 where
  pub lo : s.lo.order ≡ order
  pub hi : s.hi.order ≡ order

-- the fragment is the static columns of its partition
abbrev pub is_static : Fragment → Bool
is_static (fragment.Static columns) = true
is_static (fragment.Row r) = false
is_static (fragment.Marker cut d) = false

-- the row lies in the slice; the marker stands between its cuts, and at neither
abbrev pub lies_in : Slice → Fragment → Bool
lies_in s (fragment.Static columns) = false
lies_in s (fragment.Row r) = is_inside s.lo s.hi r.clustering.values
lies_in s (fragment.Marker cut d) = stands_before s.lo cut && stands_before cut s.hi

-- the range deletion in force right behind a cut
abbrev pub force_behind : Cut → List Fragment → Option Deletion
force_behind cut fs = after (λ k. not (stands_before cut k)) None (changes fs)

-- the range deletion in force right before a cut
abbrev pub force_before : Cut → List Fragment → Option Deletion
force_before cut fs = after (λ k. stands_before k cut) None (changes fs)

-- where a deletion is in force: from the cut on it is
abbrev pub opened_at : Cut → Option Deletion → List Fragment
opened_at cut None = []
opened_at cut (Some d) = fragment.Marker cut (Some d) ∷ []

-- where a deletion is in force: from the cut on none is
abbrev pub closed_at : Cut → Option Deletion → List Fragment
closed_at cut None = []
closed_at cut (Some d) = fragment.Marker cut None ∷ []

-- what is between the slice's cuts: it begins with the deletion that is in force where the slice begins, and closes the one in force at its end
abbrev pub between_cuts : Slice → List Fragment → List Fragment
between_cuts s fs = opened_at s.lo (force_behind s.lo fs) ++ (filter (lies_in s) fs ++ closed_at s.hi (force_before s.hi fs))

-- a stream cut to a slice: the static row, and what is between the slice's cuts, if the first does stand before the second
abbrev pub cut_to : Slice → List Fragment → List Fragment
cut_to s fs = filter is_static fs ++ (if stands_before s.lo s.hi then between_cuts s fs else [])
