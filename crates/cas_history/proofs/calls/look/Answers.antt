use Rattle.std.proofs.Common.{[], ◌∷◌, ◌++◌, ◌∙◌, subst}
use Rattle.cas_history.specs.Hands.{Apart}
use Rattle.cas_history.proofs.calls.look.Goals as goal

pub returns-clause-apart : goal.returns-clause-apart
returns-clause-apart g c =
    let pair = c.lend_to-group.ensures.1 ∙ (λ k. c.lend.ensures.1 k ++ c.args.two.now ∷ []) in
    subst Apart pair c.show-count.ensures.5
