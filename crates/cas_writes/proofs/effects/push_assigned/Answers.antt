use Rattle.std.proofs.Common.{◌++◌, ◌∙◌, ap}
use Rattle.cas_writes.specs.Changes.{change_effects}
use Rattle.cas_mentions.specs.Mentions.{assigns}
use Rattle.cas_writes.proofs.EffectLemmas.{pushed_step}
use Rattle.cas_writes.proofs.effects.push_assigned.Goals as goal

pub loop-assignment-preserved : goal.loop-assignment-preserved
loop-assignment-preserved c =
    pushed_step (λ x. change_effects c.args.columns.now c.args.row.now (x.column, assigns x.value)) _ c.args.assignments.now c.loop-assignment.assignment-index c.assignment-item.result _ _
    c.loop-assignment-test.true c.assignment-item.is c.loop-assignment.invariant (c.in_ok-push_change.ensures ∙ ap (λ n. c.loop-assignment.effects.items ++ change_effects c.args.columns.now c.args.row.now (n, assigns c.assignment-item.result.value)) c.as_str.ensures)
