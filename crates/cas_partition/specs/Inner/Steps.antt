-- What comes of one step over rows and marks (own).
use Rattle.std.specs.Prelude.{◌≡◌, ℕ, ◌+◌, ◌<◌, List, [], length}
use Rattle.std.specs.List.{cons_option}
use Rattle.std.specs.Vec.Iter.{into_iter_items}
use Rattle.cas_streams.specs.declared.fragment.Fragment.{Fragment}
use Rattle.cas_partition.specs.Inner.Firsts.{with_first}
use Rattle.cas_partition.specs.Inner.Rows.{RowsOf}
use Rattle.cas_partition.specs.Inner.Passing.{OwnMark}
use Rattle.cas_partition.specs.declared.passing.Marks.{Marks}
use Rattle.cas_partition.specs.declared.passing.Step.{Step}
use Rattle.cas_partition.specs.declared.passing.Step.TheVariants.{End, Passed}

-- the marks, the first of which is looked at
abbrev pub marks_in : Marks → List OwnMark
marks_in m = with_first m.first (into_iter_items m.others)

-- how many rows and marks there are
abbrev pub room_left : RowsOf → List OwnMark → ℕ
room_left rows ms = length rows + length ms

-- nothing was to come; or what was to come is what is left of the mark or the row that was passed, and the others
abbrev pub Steps : Step → List Fragment → List Fragment → ℕ → ℕ → Type 0
Steps End before after room left = (before ≡ []) × (after ≡ []) × (left ≡ room)
Steps (Passed f) before after room left = (before ≡ cons_option f after) × (left < room)
