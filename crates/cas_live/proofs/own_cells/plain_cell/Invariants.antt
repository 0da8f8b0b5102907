use Rattle.std.proofs.Common.{◌≡◌, [], length}
use Rattle.cas_live.specs.Inner.OwnRow.{cell_of}
use Rattle.cas_live.proofs.own_cells.plain_cell.Given as goal

abbrev pub invariant-loop-rest : goal.invariant-loop-rest
invariant-loop-rest l = cell_of [] l.rest ≡ cell_of [] l.cells

abbrev pub decreases-loop-rest : goal.decreases-loop-rest
decreases-loop-rest l = length l.rest
