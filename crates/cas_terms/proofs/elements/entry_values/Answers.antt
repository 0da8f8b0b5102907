use Rattle.std.proofs.Common.{◌∙◌, ap, ◌++◌}
use Rattle.std.specs.Option.{option_to_list}
use Rattle.cas_effects.proofs.Steps.{filter_map_step}
use Rattle.cas_terms.proofs.elements.entry_values.Goals as goal

pub loop-entry-preserved : goal.loop-entry-preserved
loop-entry-preserved c =
    filter_map_step _ c.args.entries.now c.loop-entry.entry-index c.entry-item.result _ _ c.loop-entry-test.true c.entry-item.is c.loop-entry.invariant
    (c.in_ok-push_some.ensures ∙ ap (λ o. c.loop-entry.found.items ++ option_to_list o) c.in_ok-entry_value.ensures)
