use Rattle.std.proofs.Common.{◌≡◌, ◌++◌, map, length}
use Rattle.cas_cell.specs.Cells.{cell_value}
use Rattle.cas_live.specs.Inner.OwnRow.{shown_cells}
use Rattle.cas_live.proofs.own_cells.shown_entries.Given as goal

abbrev pub invariant-loop-rest : goal.invariant-loop-rest
invariant-loop-rest l = l.entries.items ++ map (λ e. (e.path, cell_value e.cell)) (shown_cells l.now l.over l.rest) ≡ map (λ e. (e.path, cell_value e.cell)) (shown_cells l.now l.over l.cells)

abbrev pub decreases-loop-rest : goal.decreases-loop-rest
decreases-loop-rest l = length l.rest
