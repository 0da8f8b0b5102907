use Rattle.std.proofs.Common.{◌∙◌, ap, ◌++◌, ◌∷◌, []}
use Rattle.cas_effects.proofs.Steps.{enumerate_step}
use Rattle.cas_effects.proofs.atoms.placed_from.Goals as goal

pub loop-index-preserved : goal.loop-index-preserved
loop-index-preserved c =
    enumerate_step _ c.args.values.now c.loop-index.index c.index-values-index.result _ _ c.loop-index-test.true c.index-values-index.is c.loop-index.invariant
    (c.in_ok-push.ensures.items ∙ ap (λ e. c.loop-index.elements.items ++ e ∷ []) c.in_ok-placed_at.ensures)
