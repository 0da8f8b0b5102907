use Rattle.std.proofs.Common.{◌∙◌, sym}
use Rattle.cas_atoms.proofs.Folds.{ordered_none, ordered_step}
use Rattle.cas_atoms.proofs.rows_and_paths.written_paths.Goals as goal

pub loop-atom-init : goal.loop-atom-init
loop-atom-init c = c.new-paths.ensures.items ∙ sym (ordered_none _ _)

pub loop-atom-preserved : goal.loop-atom-preserved
loop-atom-preserved c =
    ordered_step _ _ c.args.atoms.now c.loop-atom.atom-index c.atom-item.result _ _ c.loop-atom-test.true c.atom-item.is c.loop-atom.invariant c.in_ok-put_written_path.ensures
