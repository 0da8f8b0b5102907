use Rattle.std.proofs.Common.{ap, ◌∙◌}
use Rattle.std.specs.Int.{w64, cast_unsigned}
use Rattle.cas_bounds.specs.Keys.{key_cmp}
use Rattle.cas_partition.proofs.Fronts.{keys_decide}
use Rattle.cas_partition.proofs.cut_key.CutKeyOrd.cmp.Goals as goal

pub returns-then-self-other-2 : goal.returns-then-self-other-2
returns-then-self-other-2 c =
    c.cmp.ensures ∙ keys_decide c.self.inside.key c.other.inside.key _ _ c.self.invariant c.other.invariant c.if-self-other.true
    (λ e. c.if-self-other-2.true (ap (cast_unsigned w64) e))
    ∙ (λ i. key_cmp (c.self.view_is i) (c.other.view_is i))
