use Rattle.std.proofs.Common.{ap, ◌∙◌}
use Rattle.cas_atoms.specs.Answers.{is_answered}
use Rattle.cas_atoms.proofs.ListSteps.{filter_takes, filter_leaves}
use Rattle.cas_atoms.proofs.answers.answered.Goals as goal
use Rattle.cas_atoms.proofs.answers.answered.Goals.{then-branch+in_ok-copy_values+in_ok-push, else-branch}

pub loop-values-preserved : goal.loop-values-preserved
loop-values-preserved c =
    let p = is_answered c.args.query.now c.args.partition.atoms.now c.args.partition.now in
    elim c.if-branch.branch [
      | then-branch+in_ok-copy_values+in_ok-push w ↦
          filter_takes p c.deref-values-items.result.now c.loop-values.values-index c.values-item.result c.loop-values-test.true c.values-item.is c.loop-values.kept.items _ _ _
          c.in_ok-is_answered.ensures w.if-branch.true w.in_ok-copy_values.ensures c.loop-values.invariant (ap (λ v. v.items) w.kept-is ∙ w.in_ok-push.ensures.items)
      | else-branch w ↦
          filter_leaves p c.deref-values-items.result.now c.loop-values.values-index c.values-item.result c.loop-values-test.true c.values-item.is c.loop-values.kept.items _ _
          c.in_ok-is_answered.ensures w.if-branch.false c.loop-values.invariant (ap (λ v. v.items) w.kept-is)
    ]
