use Rattle.std.proofs.Common.{ap, ◌∙◌}
use Rattle.std.specs.Int.{w64, cast_unsigned}
use Rattle.std.specs.Ordering.{is_gt}
use Rattle.cas_partition.proofs.Fronts.{cut_is_first}
use Rattle.cas_partition.proofs.passing.is_first.Goals as goal

pub returns-then-row-at-2 : goal.returns-then-row-at-2
returns-then-row-at-2 c =
    c.is_gt.ensures ∙ ap is_gt c.cmp.ensures
    ∙ cut_is_first c.args.mark.now c.args.key.now c.front-row.result c.front-at.result c.front-row.ensures c.front-at.ensures c.if-row-at.true
    (λ e. c.if-row-at-2.true (ap (cast_unsigned w64) e))
