use Rattle.std.proofs.Common.{◌++◌, ◌∙◌, ap}
use Rattle.cas_writes.specs.Changes.{change_effects}
use Rattle.cas_mentions.specs.Mentions.{deletes}
use Rattle.cas_writes.proofs.EffectLemmas.{pushed_step}
use Rattle.cas_writes.proofs.effects.push_deleted.Goals as goal

pub loop-target-preserved : goal.loop-target-preserved
loop-target-preserved c =
    pushed_step (λ x. change_effects c.args.columns.now c.args.row.now (x.column, deletes x.key)) _ c.args.targets.now c.loop-target.target-index c.target-item.result _ _
    c.loop-target-test.true c.target-item.is c.loop-target.invariant (c.in_ok-push_change.ensures ∙ ap (λ n. c.loop-target.effects.items ++ change_effects c.args.columns.now c.args.row.now (n, deletes c.target-item.result.key)) c.as_str.ensures)
