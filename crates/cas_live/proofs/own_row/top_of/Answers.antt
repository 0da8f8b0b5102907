use Rattle.cas_cell.proofs.OrderLaws.{deletion_laws}
use Rattle.cas_atoms.proofs.GreatestLemmas.{greatest_step}
use Rattle.cas_live.specs.Inner.OwnRow.{of_whole}
use Rattle.cas_live.proofs.own_row.top_of.Goals as goal

pub loop-atom-preserved : goal.loop-atom-preserved
loop-atom-preserved c = greatest_step deletion_laws.orders of_whole _ _ _ _ _ _ c.loop-atom-test.true c.atom-item.is c.loop-atom.invariant c.of_whole.ensures c.greater_deletion-best.ensures
