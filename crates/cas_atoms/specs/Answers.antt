-- The live view: what a list of atoms answers to a query at a moment. It knows no storage.
-- CQL documentation, "Data manipulation: SELECT; WHERE, ORDER BY, LIMIT" and "Data definition: static columns".
use Rattle.std.specs.Prelude.{ℕ, ◌+◌, ◌^◌, ◌<◌, ℤ, Bool, true, false, not, ◌&&◌, ◌||◌}
use Rattle.std.specs.Prelude.{Option, None, Some, List, [], ◌∷◌, length, map, filter, take, reverse, if◌then◌else◌}
use Rattle.cas_types.specs.Schemas.{is_static, is_regular}
use Rattle.cas_types.specs.declared.schema.Column.{Column}
use Rattle.cas_types.specs.declared.schema.Kind.{Kind}
use Rattle.cas_cell.specs.Lives.{live_lives}
use Rattle.cas_cell.specs.declared.liveness.Liveness.{Liveness}
use Rattle.cas_bounds.specs.Cuts.{is_inside}
use Rattle.cas_bounds.specs.ClusteringOrder.{clustering_order}
use Rattle.cas_bounds.specs.declared.cuts.Slice.{Slice}
use Rattle.cas_atoms.specs.Coordinates.{RowKey, clustered, static_row}
use Rattle.cas_atoms.specs.Winners.{live_winner}
use Rattle.cas_atoms.specs.RowsAndPaths.{rows_of, alive_paths}
use Rattle.cas_atoms.specs.Picks.{picked}
use Rattle.cas_atoms.specs.declared.atom.Atom.{Atom}
use Rattle.cas_atoms.specs.declared.query.Query.{Query}
use Rattle.cas_atoms.specs.declared.query.LiveRow.{LiveRow}

-- the columns of a table have numbers of sixteen bits, so that there are fewer than 65,536
abbrev pub AreNumbered : List Column → Type 0
AreNumbered columns = length columns < 2 ^ 16

-- nothing is in the list
abbrev pub is_empty : {X : Type 0} → List X → Bool
is_empty [] = true
is_empty _ = false

-- a row of clustering values has the regular columns, the static row the static ones
abbrev pub has_kind : RowKey → Kind → Bool
has_kind (clustered c) kind = is_regular kind
has_kind static_row kind = is_static kind

-- some column of the row, of those from that number on, has an alive cell
abbrev pub has_cell : List Atom → ℤ → RowKey → ℕ → List Column → Bool
has_cell atoms now r n [] = false
has_cell atoms now r n (c ∷ cs) = (has_kind r c.kind && not (is_empty (alive_paths atoms now r n c))) || has_cell atoms now r (n + 1) cs

-- a liveness is there, and not over at the moment
abbrev pub is_living : ℤ → Option Liveness → Bool
is_living now None = false
is_living now (Some l) = live_lives now l

-- a row is shown where it lives by its INSERT or has an alive cell
abbrev pub is_shown : List Atom → ℤ → List Column → List (List ℕ) → Bool
is_shown atoms now columns c = is_living now (live_winner atoms c) || has_cell atoms now (clustered c) 0 columns

-- a row answers where it is in the slice, and shown
abbrev pub is_answered : Query → List Atom → ℤ → List (List ℕ) → Bool
is_answered q atoms now c = is_inside q.slice.lo q.slice.hi c && is_shown atoms now q.columns c

-- the rows that answer, in the table's order
unfoldable pub answered : Query → List Atom → ℤ → List (List (List ℕ))
answered q atoms now = filter (is_answered q atoms now) (rows_of (clustering_order q.columns) atoms)

-- the other way round, where ORDER BY says so
abbrev pub turned : {X : Type 0} → Bool → List X → List X
turned reversed xs = if reversed then reverse xs else xs

-- the slice is the whole partition: the query restricts no clustering column
abbrev pub is_whole : Slice → Bool
is_whole s = (is_empty s.lo.prefix && not s.lo.after) && (is_empty s.hi.prefix && s.hi.after)

-- where no row answers, and the query restricts no clustering column, the static row answers if it has an alive cell
abbrev pub with_static : Query → List Atom → ℤ → List (List (List ℕ)) → List RowKey
with_static q atoms now [] = if is_whole q.slice && has_cell atoms now static_row 0 q.columns then static_row ∷ [] else []
with_static q atoms now (c ∷ cs) = map clustered (c ∷ cs)

-- the first rows, as many as LIMIT says
abbrev pub limited : {X : Type 0} → Option ℕ → List X → List X
limited None rows = rows
limited (Some n) rows = take n rows

-- what a row shows: a value for each pick
unfoldable pub row_shown : Query → List Atom → ℤ → RowKey → LiveRow
row_shown q atoms now r = record { values = map (picked q atoms now r) q.picks }

-- the live view: the rows that answer, turned round where the query says so, cut at its limit, with what each shows
unfoldable pub answer : Query → List Atom → ℤ → List LiveRow
answer q atoms now = map (row_shown q atoms now) (limited q.limit (with_static q atoms now (turned q.reversed (answered q atoms now))))
