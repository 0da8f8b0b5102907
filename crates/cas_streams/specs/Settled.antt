-- A stream without what is covered in it, and without markers that change nothing.
-- Cassandra documentation, "Operating: Compaction, tombstones"; own. Deletions stay, also where a greater one stands above them.
use Rattle.std.specs.Prelude.{ℤ, Bool, true, not, Option, None, Some, List, [], ◌∷◌, filter, if◌then◌else◌}
use Rattle.std.specs.List.{filter_map, cons_option}
use Rattle.std.specs.Option.{option_cmp}
use Rattle.std.specs.Ordering.{eq_by_cmp}
use Rattle.cas_cell.specs.Deletions.{deletion_cmp, covered}
use Rattle.cas_cell.specs.Lives.{live_at}
use Rattle.cas_cell.specs.Cells.{cell_at}
use Rattle.cas_cell.specs.declared.deletion.Deletion.{Deletion}
use Rattle.cas_bounds.specs.declared.cuts.Clustering.{Clustering}
use Rattle.cas_atoms.specs.Greatest.{greater}
use Rattle.cas_atoms.specs.Winners.{standing}
use Rattle.cas_atoms.specs.declared.atom.Atom.{Atom}
use Rattle.cas_atoms.specs.declared.row.Row.{Row}
use Rattle.cas_atoms.specs.declared.row.RowColumn.{RowColumn}
use Rattle.cas_streams.specs.Flat.{of_column, own}
use Rattle.cas_streams.specs.Joined.{Stream, opened}
use Rattle.cas_streams.specs.declared.fragment.Fragment.{Fragment}
use Rattle.cas_streams.specs.declared.fragment.Fragment.TheVariants as fragment

-- a write of that timestamp isn't covered by the deletion
abbrev pub is_bare : Option Deletion → ℤ → Bool
is_bare None at = true
is_bare (Some d) at = not (covered d at)

-- a thing, where atoms are said of it
abbrev pub if_said : {X : Type 0} → List Atom → X → Option X
if_said [] x = None
if_said (a ∷ atoms) x = Some x

-- a column with the cells that neither its own deletion covers nor one above it
abbrev pub bare_column : Option Deletion → RowColumn → RowColumn
bare_column over c = record {
  column = c.column;
  deletion = c.deletion;
  cells = filter (λ p. is_bare (greater deletion_cmp over c.deletion) (cell_at p.cell)) c.cells;
}

-- the columns of a row of which then something is left
abbrev pub bare_columns : Option Clustering → Option Deletion → List RowColumn → List RowColumn
bare_columns at over cs = filter_map (λ c. if_said (of_column at (bare_column over c)) (bare_column over c)) cs

-- a row under a deletion: what neither that covers nor the row's own
abbrev pub bare_row : Option Deletion → Row → Row
bare_row over r = record {
  clustering = r.clustering;
  deletion = r.deletion;
  live = standing live_at (greater deletion_cmp over r.deletion) r.live;
  columns = bare_columns (Some r.clustering) (greater deletion_cmp over r.deletion) r.columns;
}

-- a fragment, under the top and what is in force there: the static row is under the top alone, and a marker is covered by nothing
abbrev pub bare : Option Deletion → Option Deletion → Fragment → Fragment
bare top now (fragment.Static cs) = fragment.Static (bare_columns None top cs)
bare top now (fragment.Row r) = fragment.Row (bare_row (greater deletion_cmp top now) r)
bare top now (fragment.Marker cut d) = fragment.Marker cut d

-- the same deletion, or none both times
abbrev pub same_force : Option Deletion → Option Deletion → Bool
same_force = eq_by_cmp (option_cmp deletion_cmp)

-- that fragment, where something is left of it: a row of which something is said, a marker that changes what is in force
abbrev pub left_of : Option Deletion → Option Deletion → Fragment → Option Fragment
left_of top now (fragment.Static cs) = if_said (own (bare top now (fragment.Static cs))) (bare top now (fragment.Static cs))
left_of top now (fragment.Row r) = if_said (own (bare top now (fragment.Row r))) (bare top now (fragment.Row r))
left_of top now (fragment.Marker cut d) = if same_force now d then None else Some (fragment.Marker cut d)

-- what is left of fragments, if before them `now` is in force
abbrev pub settled_from : Option Deletion → Option Deletion → List Fragment → List Fragment
settled_from top now [] = []
settled_from top now (f ∷ fs) = cons_option (left_of top now f) (settled_from top (opened now f) fs)

-- what is left of a stream
abbrev pub settled : Stream → Stream
settled s = record { top = s.top; fragments = settled_from s.top None s.fragments }
