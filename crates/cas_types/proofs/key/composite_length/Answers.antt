use Rattle.cas_types.proofs.Totals.{length_more}
use Rattle.cas_types.proofs.key.composite_length.Goals as goal

pub loop-value-preserved : goal.loop-value-preserved
loop-value-preserved c =
    length_more c.args.values.now c.loop-value.value-index c.value-item.result c.as_slice.result.now c.loop-value.total c.saturating_add-total.result c.loop-value-test.true c.value-item.is c.as_slice.ensures c.loop-value.invariant c.saturating_add-total.ensures
