use Rattle.std.proofs.Common.{length, ap, subst, sym, ◌≤◌}
use Rattle.cas_types.proofs.Totals.{encode_more, component_fits}
use Rattle.cas_types.proofs.key.encode_composite.Goals as goal

pub append_component-requires : goal.append_component-requires
append_component-requires c =
    subst (λ n. n ≤ 65535) (ap length (sym c.as_slice.ensures)) (component_fits c.args.values.now c.loop-value.value-index c.value-item.result c.loop-value-test.true c.value-item.is c.requires)

pub loop-value-preserved : goal.loop-value-preserved
loop-value-preserved c =
    encode_more c.args.values.now c.loop-value.value-index c.value-item.result c.as_slice.result.now c.loop-value.key.items c.append_component.new.key.items c.loop-value-test.true c.value-item.is c.as_slice.ensures c.loop-value.invariant c.in_ok-append_component.ensures
