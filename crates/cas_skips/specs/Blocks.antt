-- The fragments that bytes spell, taken one at a time.
-- Own.
use Rattle.std.specs.Prelude.{ℕ, zero, suc, Bool, List, [], ◌∷◌, Option, None, Some, if◌then◌else◌, Ok, Err}
use Rattle.std.specs.Ordering.{is_lt}
use Rattle.cas_types.specs.declared.schema.Column.{Column}
use Rattle.cas_cell.specs.declared.deletion.Deletion.{Deletion}
use Rattle.cas_bounds.specs.Points.{cut_point}
use Rattle.cas_bounds.specs.declared.cuts.Cut.{Cut}
use Rattle.cas_bounds.specs.declared.order.Ordered.{Ordered}
use Rattle.cas_codec.specs.Reading.{Left, Read}
use Rattle.cas_streams.specs.Joined.{opened}
use Rattle.cas_streams.specs.Places.{place_of, place_cmp}
use Rattle.cas_streams.specs.declared.fragment.Fragment.{Fragment}
use Rattle.cas_fragments.specs.Reading.{fragment_at}

-- a fragment that was read, and those behind it; none where none stands there
abbrev pub and_others : Read Fragment → (Left → List Fragment) → List Fragment
and_others (Ok x) others = x.0 ∷ others x.1
and_others (Err fault) others = []

-- the fragments that are spelled one after another, up to so many of them, or to what is none
unfoldable pub spelled : List Ordered → List Column → ℕ → Left → List Fragment
spelled order columns zero left = []
spelled order columns (suc n) left = and_others (fragment_at order columns left) (λ next. spelled order columns n next)

-- the fragment stands behind the cut; one that stands at it doesn't
abbrev pub is_beyond : List Ordered → Cut → Fragment → Bool
is_beyond order cut f = is_lt (place_cmp order (Some (cut_point cut)) (place_of f))

-- fragments before which `now` is in force: the first of them that stands behind the cut with those after it, and what is in force there
abbrev pub skipped : List Ordered → Cut → Option Deletion → List Fragment → Option Deletion × List Fragment
skipped order cut now [] = (now, [])
skipped order cut now (f ∷ fs) = if is_beyond order cut f then (now, f ∷ fs) else skipped order cut (opened now f) fs

-- a list by its first element and the others
abbrev pub with_first : Option Fragment → List Fragment → List Fragment
with_first None rest = []
with_first (Some f) rest = f ∷ rest
