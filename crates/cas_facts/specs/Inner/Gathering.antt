-- How facts are gathered (own).
use Rattle.std.specs.Prelude.{ℤ, Option, None, Some, List, fold}
use Rattle.std.specs.Int.{int_min, int_max}
use Rattle.cas_cell.specs.Lives.{live_at}
use Rattle.cas_cell.specs.Cells.{cell_at}
use Rattle.cas_cell.specs.declared.deletion.Deletion.{Deletion}
use Rattle.cas_cell.specs.declared.liveness.Liveness.{Liveness}
use Rattle.cas_atoms.specs.declared.row.Row.{Row}
use Rattle.cas_atoms.specs.declared.row.RowColumn.{RowColumn}
use Rattle.cas_atoms.specs.declared.row.PathCell.{PathCell}
use Rattle.cas_streams.specs.declared.fragment.Fragment.{Fragment}
use Rattle.cas_streams.specs.declared.fragment.Fragment.TheVariants as fragment
use Rattle.cas_purge.specs.Droppable.{live_end, cell_end}
use Rattle.cas_facts.specs.declared.facts.Facts.{Facts}

-- the later of two ends, where both end
abbrev pub last_end : Option ℤ → Option ℤ → Option ℤ
last_end None e = None
last_end (Some d) None = None
last_end (Some d) (Some e) = Some (int_max d e)

-- the facts of one atom
abbrev pub lone : ℤ → Option ℤ → Facts
lone at end = record { least = at; greatest = at; dead = end }

-- the facts of both
abbrev pub joined : Facts → Facts → Facts
joined f g = record { least = int_min f.least g.least; greatest = int_max f.greatest g.greatest; dead = last_end f.dead g.dead }

-- the facts so far, with one atom more
abbrev pub with_one : Option Facts → Facts → Option Facts
with_one None g = Some g
with_one (Some f) g = Some (joined f g)

abbrev pub with_deletion : Option Facts → Option Deletion → Option Facts
with_deletion f None = f
with_deletion f (Some d) = with_one f (lone d.at (Some d.second))

abbrev pub with_live : Option Facts → Option Liveness → Option Facts
with_live f None = f
with_live f (Some l) = with_one f (lone (live_at l) (live_end l))

abbrev pub with_cell : Option Facts → PathCell → Option Facts
with_cell f p = with_one f (lone (cell_at p.cell) (cell_end p.cell))

abbrev pub with_column : Option Facts → RowColumn → Option Facts
with_column f c = fold with_cell (with_deletion f c.deletion) c.cells

abbrev pub with_columns : Option Facts → List RowColumn → Option Facts
with_columns f cs = fold with_column f cs

abbrev pub with_row : Option Facts → Row → Option Facts
with_row f r = with_columns (with_live (with_deletion f r.deletion) r.live) r.columns

abbrev pub with_fragment : Option Facts → Fragment → Option Facts
with_fragment f (fragment.Static cs) = with_columns f cs
with_fragment f (fragment.Row r) = with_row f r
with_fragment f (fragment.Marker cut d) = with_deletion f d
