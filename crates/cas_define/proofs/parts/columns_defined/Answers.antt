use Rattle.std.proofs.Common.{◌∙◌, ap, ◌++◌}
use Rattle.std.specs.Option.{option_to_list}
use Rattle.cas_effects.proofs.Steps.{filter_map_step}
use Rattle.cas_define.proofs.parts.columns_defined.Goals as goal

pub loop-item-preserved : goal.loop-item-preserved
loop-item-preserved c =
    filter_map_step _ c.args.items.now c.loop-item.item-index c.item-item.result _ _ c.loop-item-test.true c.item-item.is c.loop-item.invariant
    (c.in_ok-push_some.ensures ∙ ap (λ o. c.loop-item.columns.items ++ option_to_list o) c.in_ok-column_item.ensures)
