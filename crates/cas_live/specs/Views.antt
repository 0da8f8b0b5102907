-- The live view of a partition that comes as a stream, row by row.
-- CQL documentation, "Data manipulation: SELECT; ORDER BY, LIMIT" and "Data definition: static columns".
use Rattle.std.specs.Prelude.{ℕ, ℤ, Option, None, List, [], ◌∷◌, ◌++◌, map}
use Rattle.std.specs.Bool.{then_some}
use Rattle.std.specs.List.{filter_map}
use Rattle.cas_cell.specs.declared.deletion.Deletion.{Deletion}
use Rattle.cas_atoms.specs.Coordinates.{clustered, static_row}
use Rattle.cas_atoms.specs.Answers.{is_answered, turned, with_static, limited, row_shown}
use Rattle.cas_atoms.specs.declared.atom.Atom.{Atom}
use Rattle.cas_atoms.specs.declared.atom.Atom.TheVariants.{RowDeletion}
use Rattle.cas_atoms.specs.declared.query.Query.{Query}
use Rattle.cas_atoms.specs.declared.query.LiveRow.{LiveRow}
use Rattle.cas_atoms.specs.declared.row.Row.{Row}
use Rattle.cas_streams.specs.Flat.{atom_of, own, in_force}
use Rattle.cas_streams.specs.Laws.{row_says}
use Rattle.cas_streams.specs.declared.fragment.Fragment.{Fragment}
use Rattle.cas_streams.specs.declared.fragment.Fragment.TheVariants as fragment

-- what all rows of a partition share: the deletion of the whole, and the static row
abbrev pub shared : Option Deletion → List Fragment → List Atom
shared top fs = row_says top fs static_row

-- by what a row shows: what all rows share, the range deletion in force at it, as one of this row, and what is said of the row itself
abbrev pub row_view : List Atom → Option Deletion → Row → List Atom
row_view all force r = all ++ (atom_of (RowDeletion r.clustering) force ++ own (fragment.Row r))

-- what a row shows by those atoms, where it answers
abbrev pub if_answered : Query → ℤ → List Atom → List (List ℕ) → Option LiveRow
if_answered q now atoms c = then_some (is_answered q atoms now c) (row_shown q atoms now (clustered c))

-- what a fragment of the stream shows: a row, where it answers
abbrev pub live_row : Query → ℤ → Option Deletion → List Fragment → Fragment → Option LiveRow
live_row q now top fs (fragment.Static columns) = None
live_row q now top fs (fragment.Row r) =
    if_answered q now (row_view (shared top fs) (in_force fs (clustered r.clustering.values)) r) r.clustering.values
live_row q now top fs (fragment.Marker cut d) = None

-- the live rows of a stream, in its order
abbrev pub live_rows : Query → ℤ → Option Deletion → List Fragment → List LiveRow
live_rows q now top fs = filter_map (live_row q now top fs) fs

-- where there is none, the static row alone, if the query wants it and it has an alive cell
abbrev pub or_static : Query → ℤ → List Atom → List LiveRow → List LiveRow
or_static q now all [] = map (row_shown q all now) (with_static q all now [])
or_static q now all (r ∷ rs) = r ∷ rs

-- the live view of a stream: its live rows or the static row, turned round where the query says so, cut at its limit
abbrev pub stream_answer : Query → ℤ → Option Deletion → List Fragment → List LiveRow
stream_answer q now top fs = limited q.limit (or_static q now (shared top fs) (turned q.reversed (live_rows q now top fs)))
