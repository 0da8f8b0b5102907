use Rattle.std.proofs.Common.{length}
use Rattle.cas_atoms.proofs.shown_rows.+has_cell.Given as goal

abbrev pub decreases-has_cell : goal.decreases-has_cell
decreases-has_cell l = length l.columns.now
