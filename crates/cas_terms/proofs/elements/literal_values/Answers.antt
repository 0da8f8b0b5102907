use Rattle.std.proofs.Common.{◌∙◌, ap, ◌++◌}
use Rattle.std.specs.Option.{option_to_list}
use Rattle.cas_effects.proofs.Steps.{filter_map_step}
use Rattle.cas_terms.proofs.elements.literal_values.Goals as goal

pub loop-element-preserved : goal.loop-element-preserved
loop-element-preserved c =
    filter_map_step _ c.args.elements.now c.loop-element.element-index c.element-item.result _ _ c.loop-element-test.true c.element-item.is c.loop-element.invariant
    (c.in_ok-push_some.ensures ∙ ap (λ o. c.loop-element.values.items ++ option_to_list o) c.in_ok-literal_value.ensures)
