use Rattle.std.proofs.Common.{ap, ◌∙◌}
use Rattle.std.specs.Int.{w64, cast_unsigned}
use Rattle.cas_partition.specs.Spots.{row_cmp}
use Rattle.cas_partition.proofs.Fronts.{numbers_decide}
use Rattle.cas_partition.proofs.row_key.RowKeyOrd.cmp.Goals as goal

pub returns-then-self-other-2 : goal.returns-then-self-other-2
returns-then-self-other-2 c =
    c.cmp.ensures ∙ numbers_decide c.self.inside.row c.other.inside.row _ _ c.self.invariant c.other.invariant c.if-self-other.true
    (λ e. c.if-self-other-2.true (ap (cast_unsigned w64) e))
    ∙ (λ i. row_cmp (c.self.view_is i) (c.other.view_is i))
