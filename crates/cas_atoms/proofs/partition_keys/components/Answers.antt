use Rattle.cas_atoms.proofs.Components.{component_step}
use Rattle.cas_atoms.proofs.partition_keys.components.Goals as goal

pub loop-column-preserved : goal.loop-column-preserved
loop-column-preserved c =
    component_step c.args.count c.loop-column._column c.length_in_front-size.result c.args.key.now c.loop-column.rest.now _ _ _ _ _ _ c.loop-column-test.true
    c.length_in_front-size.ensures c.after.ensures c.front.ensures c.in_ok-copy_of.ensures c.after-rest.ensures c.in_ok-push.ensures.items c.loop-column.invariant
