use Rattle.std.proofs.Common.{◌∙◌, ap, ◌++◌}
use Rattle.std.specs.Option.{option_to_list}
use Rattle.cas_effects.proofs.Steps.{filter_map_step}
use Rattle.cas_define.proofs.schemas.other_columns.Goals as goal

pub loop-column-preserved : goal.loop-column-preserved
loop-column-preserved c =
    filter_map_step _ c.args.columns.now c.loop-column.column-index c.column-item.result _ _ c.loop-column-test.true c.column-item.is c.loop-column.invariant
    (c.in_ok-push_some.ensures ∙ ap (λ o. c.loop-column.others.items ++ option_to_list o) c.in_ok-other_column.ensures)
