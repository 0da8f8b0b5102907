use Rattle.cas_cell.proofs.OrderLaws.{deletion_laws}
use Rattle.cas_atoms.specs.Coordinates.{row, deletion_at}
use Rattle.cas_atoms.proofs.GreatestLemmas.{greatest_step}
use Rattle.cas_atoms.proofs.winners.row_cover.Goals as goal

pub loop-atom-preserved : goal.loop-atom-preserved
loop-atom-preserved c =
    greatest_step deletion_laws.orders (deletion_at (row c.args.values.now)) _ _ _ _ _ _ c.loop-atom-test.true c.atom-item.is c.loop-atom.invariant c.deletion_at_row.ensures c.greater_deletion-best.ensures
