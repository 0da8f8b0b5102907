-- Two streams of a partition joined into one, place by place, with nothing left out.
-- Cassandra documentation, "Operating: Compaction, tombstones"; own.
use Rattle.std.specs.Prelude.{Option, None, List, [], if◌then◌else◌}
use Rattle.std.specs.Ordering.{nat_cmp, is_lt}
use Rattle.std.specs.declared.cmp.Ordering.{Ordering}
use Rattle.cas_types.specs.declared.tag.TypeTag.{TypeTag}
use Rattle.cas_cell.specs.Deletions.{deletion_cmp}
use Rattle.cas_cell.specs.Lives.{live_cmp}
use Rattle.cas_cell.specs.Cells.{cell_cmp}
use Rattle.cas_cell.specs.declared.deletion.Deletion.{Deletion}
use Rattle.cas_bounds.specs.declared.order.Ordered.{Ordered}
use Rattle.cas_atoms.specs.Greatest.{greater}
use Rattle.cas_atoms.specs.RowsAndPaths.{path_cmp}
use Rattle.cas_atoms.specs.declared.row.Row.{Row}
use Rattle.cas_atoms.specs.declared.row.RowColumn.{RowColumn}
use Rattle.cas_atoms.specs.declared.row.PathCell.{PathCell}
use Rattle.cas_streams.specs.Places.{place_of, place_cmp}
use Rattle.cas_streams.specs.Weaving.{Weave, woven}
use Rattle.cas_streams.specs.declared.fragment.Fragment.{Fragment}
use Rattle.cas_streams.specs.declared.fragment.Fragment.TheVariants as fragment

-- lists of which elements that stand alone stay as they are, by an order, and what comes of two that tie
abbrev pub plainly : {X : Type 0} → (X → X → Ordering) → (X → X → X) → Weave (Unit {0}) X
plainly order both = record {
  order = order;
  left = λ s x. x;
  right = λ s y. y;
  both = λ s x y. both x y;
  past_left = λ s x. s;
  past_right = λ s y. s;
}

-- two lists woven so
abbrev pub put_together : {X : Type 0} → (X → X → Ordering) → (X → X → X) → List X → List X → List X
put_together order both xs ys = woven (plainly order both) tt xs ys

-- ---- rows

-- the greater of two cells at one path
abbrev pub joined_cell : PathCell → PathCell → PathCell
joined_cell p q = record { path = p.path; cell = if is_lt (cell_cmp p.cell q.cell) then q.cell else p.cell }

-- the cells of a column, whose paths have that type or none
abbrev pub joined_cells : Option TypeTag → List PathCell → List PathCell → List PathCell
joined_cells tag = put_together (λ p q. path_cmp tag p.path q.path) joined_cell

-- a column in both
abbrev pub joined_column : RowColumn → RowColumn → RowColumn
joined_column c d = record {
  column = c.column;
  deletion = greater deletion_cmp c.deletion d.deletion;
  cells = joined_cells c.column.path c.cells d.cells;
}

-- the columns of a row, by number
abbrev pub joined_columns : List RowColumn → List RowColumn → List RowColumn
joined_columns = put_together (λ c d. nat_cmp c.column.number d.column.number) joined_column

-- a row in both
abbrev pub joined_row : Row → Row → Row
joined_row r s = record {
  clustering = r.clustering;
  deletion = greater deletion_cmp r.deletion s.deletion;
  live = greater live_cmp r.live s.live;
  columns = joined_columns r.columns s.columns;
}

-- ---- streams

-- what is in force in each of two streams
pub record Forces : Type 0 where
  pub left : Option Deletion
  pub right : Option Deletion

-- a fragment that one stream alone has at its place: a marker tells the greater of its own and what is in force in the other stream
abbrev pub raised : Option Deletion → Fragment → Fragment
raised other (fragment.Static columns) = fragment.Static columns
raised other (fragment.Row r) = fragment.Row r
raised other (fragment.Marker cut d) = fragment.Marker cut (greater deletion_cmp d other)

-- what is in force after a fragment
abbrev pub opened : Option Deletion → Fragment → Option Deletion
opened now (fragment.Static columns) = now
opened now (fragment.Row r) = now
opened now (fragment.Marker cut d) = d

-- the fragments of both at one place
abbrev pub joined_fragment : Fragment → Fragment → Fragment
joined_fragment (fragment.Static cs) (fragment.Static ds) = fragment.Static (joined_columns cs ds)
joined_fragment (fragment.Static cs) g = fragment.Static cs
joined_fragment (fragment.Row r) (fragment.Row s) = fragment.Row (joined_row r s)
joined_fragment (fragment.Row r) g = fragment.Row r
joined_fragment (fragment.Marker cut d) (fragment.Marker other e) = fragment.Marker cut (greater deletion_cmp d e)
joined_fragment (fragment.Marker cut d) g = fragment.Marker cut d

-- how a fragment's table orders its rows; it doesn't matter to the static row
abbrev pub order_of : Fragment → List Ordered
order_of (fragment.Static columns) = []
order_of (fragment.Row r) = r.clustering.order
order_of (fragment.Marker cut d) = cut.order

-- fragments of one table by their places
abbrev pub fragment_cmp : Fragment → Fragment → Ordering
fragment_cmp f g = place_cmp (order_of f) (place_of f) (place_of g)

-- how two streams are woven
abbrev pub by_place : Weave Forces Fragment
by_place = record {
  order = fragment_cmp;
  left = λ s f. raised s.right f;
  right = λ s g. raised s.left g;
  both = λ s f g. joined_fragment f g;
  past_left = λ s f. record { left = opened s.left f; right = s.right };
  past_right = λ s g. record { left = s.left; right = opened s.right g };
}

-- a stream: the deletion of the whole partition, and the fragments
pub record Stream : Type 0 where
  pub top : Option Deletion
  pub fragments : List Fragment

-- the streams joined
abbrev pub joined : Stream → Stream → Stream
joined a b = record {
  top = greater deletion_cmp a.top b.top;
  fragments = woven by_place (record { left = None; right = None }) a.fragments b.fragments;
}
