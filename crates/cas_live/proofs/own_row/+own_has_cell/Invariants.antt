use Rattle.std.proofs.Common.{length}
use Rattle.cas_live.proofs.own_row.+own_has_cell.Given as goal

abbrev pub decreases-own_has_cell : goal.decreases-own_has_cell
decreases-own_has_cell l = length l.columns.now
