use Rattle.cas_atoms.proofs.ListSteps.{keys_step}
use Rattle.cas_atoms.proofs.answers.keys.Goals as goal

pub loop-values-preserved : goal.loop-values-preserved
loop-values-preserved c =
    keys_step c.args.rows.now c.loop-values.values-index c.values-item.result _ _ _ c.loop-values-test.true c.values-item.is c.in_ok-copy_values.ensures c.loop-values.invariant c.in_ok-push.ensures.items
