-- A stream of a partition without what may be dropped.
-- Cassandra documentation, "Operating: Compaction, tombstones; gc_grace_seconds"; own.
use Rattle.std.specs.Prelude.{ℤ, int_lt, Bool, false, not, ◌&&◌, ◌||◌, Option, None, Some, is_some, List, [], ◌∷◌, filter, if◌then◌else◌}
use Rattle.std.specs.List.{filter_map, cons_option}
use Rattle.cas_cell.specs.Lives.{live_at}
use Rattle.cas_cell.specs.Cells.{cell_at}
use Rattle.cas_cell.specs.declared.deletion.Deletion.{Deletion}
use Rattle.cas_cell.specs.declared.liveness.Liveness.{Liveness}
use Rattle.cas_cell.specs.declared.cell.Cell.{Cell}
use Rattle.cas_bounds.specs.declared.cuts.Clustering.{Clustering}
use Rattle.cas_atoms.specs.declared.row.Row.{Row}
use Rattle.cas_atoms.specs.declared.row.RowColumn.{RowColumn}
use Rattle.cas_streams.specs.Flat.{of_column, own}
use Rattle.cas_streams.specs.Joined.{Stream}
use Rattle.cas_streams.specs.Settled.{if_said}
use Rattle.cas_streams.specs.declared.fragment.Fragment.{Fragment}
use Rattle.cas_streams.specs.declared.fragment.Fragment.TheVariants as fragment
use Rattle.cas_purge.specs.Droppable.{live_end, cell_end, ends_before}

-- what is there, unless it goes
abbrev pub unless : {X : Type 0} → (X → Bool) → Option X → Option X
unless goes None = None
unless goes (Some x) = if goes x then None else Some x

module _ (before limit : ℤ) where
  -- an atom of this deletion may be dropped
  abbrev pub deletion_goes : Deletion → Bool
  deletion_goes d = int_lt d.second before && int_lt d.at limit

  -- so may what an INSERT left of the row
  abbrev pub live_goes : Liveness → Bool
  live_goes l = ends_before before (live_end l) && int_lt (live_at l) limit

  -- and a cell
  abbrev pub cell_goes : Cell → Bool
  cell_goes c = ends_before before (cell_end c) && int_lt (cell_at c) limit

  -- what stays of a column
  abbrev pub purged_column : RowColumn → RowColumn
  purged_column c = record {
    column = c.column;
    deletion = unless deletion_goes c.deletion;
    cells = filter (λ p. not (cell_goes p.cell)) c.cells;
  }

  -- the columns of a row of which something stays
  abbrev pub purged_columns : Option Clustering → List RowColumn → List RowColumn
  purged_columns at cs = filter_map (λ c. if_said (of_column at (purged_column c)) (purged_column c)) cs

  -- what stays of a row
  abbrev pub purged_row : Row → Row
  purged_row r = record {
    clustering = r.clustering;
    deletion = unless deletion_goes r.deletion;
    live = unless live_goes r.live;
    columns = purged_columns (Some r.clustering) r.columns;
  }

  -- whether behind a fragment a range deletion is in force that stays, if before it that is so or not
  abbrev pub in_force_behind : Bool → Fragment → Bool
  in_force_behind now (fragment.Static columns) = now
  in_force_behind now (fragment.Row r) = now
  in_force_behind now (fragment.Marker cut d) = is_some (unless deletion_goes d)

  -- what stays of a fragment: a row of which something is said, a marker from which on a deletion that stays is in force, or isn't any more
  abbrev pub left_of : Bool → Fragment → Option Fragment
  left_of now (fragment.Static cs) = if_said (own (fragment.Static (purged_columns None cs))) (fragment.Static (purged_columns None cs))
  left_of now (fragment.Row r) = if_said (own (fragment.Row (purged_row r))) (fragment.Row (purged_row r))
  left_of now (fragment.Marker cut d) =
      if now || is_some (unless deletion_goes d) then Some (fragment.Marker cut (unless deletion_goes d)) else None

  -- what stays of fragments, by whether before them a range deletion is in force that stays
  abbrev pub purged_from : Bool → List Fragment → List Fragment
  purged_from now [] = []
  purged_from now (f ∷ fs) = cons_option (left_of now f) (purged_from (in_force_behind now f) fs)

  -- what stays of a stream
  abbrev pub purged : Stream → Stream
  purged s = record { top = unless deletion_goes s.top; fragments = purged_from false s.fragments }
