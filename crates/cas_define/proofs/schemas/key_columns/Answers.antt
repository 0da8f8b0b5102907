use Rattle.std.proofs.Common.{◌∙◌, ap, ◌++◌}
use Rattle.std.specs.Option.{option_to_list}
use Rattle.cas_effects.proofs.Steps.{filter_map_step}
use Rattle.cas_define.proofs.schemas.key_columns.Goals as goal

pub loop-name-preserved : goal.loop-name-preserved
loop-name-preserved c =
    filter_map_step _ c.args.names.now c.loop-name.name-index c.name-item.result _ _ c.loop-name-test.true c.name-item.is c.loop-name.invariant
    (c.in_ok-push_some.ensures ∙ ap (λ o. c.loop-name.found.items ++ option_to_list o) c.in_ok-key_column.ensures)
