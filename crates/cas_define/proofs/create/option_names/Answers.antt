use Rattle.std.proofs.Common.{◌∙◌, ap, ◌++◌}
use Rattle.std.specs.Option.{option_to_list}
use Rattle.cas_effects.proofs.Steps.{filter_map_step}
use Rattle.cas_define.proofs.create.option_names.Goals as goal

pub loop-option-preserved : goal.loop-option-preserved
loop-option-preserved c =
    filter_map_step _ c.args.options.now c.loop-option.option-index c.option-item.result _ _ c.loop-option-test.true c.option-item.is c.loop-option.invariant
    (c.in_ok-push_some.ensures ∙ ap (λ o. c.loop-option.names.items ++ option_to_list o) c.in_ok-option_name.ensures)
