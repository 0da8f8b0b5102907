use Rattle.std.proofs.Common.{[], ◌∷◌, ◌++◌, ◌∙◌, subst}
use Rattle.cas_history.specs.Hands.{Apart}
use Rattle.cas_history.proofs.calls.look_three.Goals as goal

pub returns-clause-apart : goal.returns-clause-apart
returns-clause-apart g c =
    let pair = c.lend_to.ensures.1 ∙ (λ k. c.lend.ensures.1 k ++ c.args.two.now ∷ []) in
    subst Apart (c.lend_to-group.ensures.1 ∙ (λ k. pair k ++ c.args.three.now ∷ [])) c.show.ensures.5
