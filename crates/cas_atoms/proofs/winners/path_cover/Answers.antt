use Rattle.cas_cell.proofs.OrderLaws.{deletion_laws}
use Rattle.cas_atoms.specs.Inner.Places.{row_at}
use Rattle.cas_atoms.specs.Coordinates.{path, deletion_at}
use Rattle.cas_atoms.proofs.GreatestLemmas.{greatest_step}
use Rattle.cas_atoms.proofs.winners.path_cover.Goals as goal

pub loop-atom-preserved : goal.loop-atom-preserved
loop-atom-preserved c =
    greatest_step deletion_laws.orders (deletion_at (path (row_at c.args.place) c.args.place.number c.args.bytes.now)) _ _ _ _ _ _ c.loop-atom-test.true c.atom-item.is c.loop-atom.invariant c.deletion_at_path.ensures c.greater_deletion-best.ensures
