use Rattle.std.proofs.Common.{◌∙◌}
use Rattle.cas_partition.specs.Inner.Pieces.{lent_in, joined_both as both_of}
use Rattle.cas_partition.proofs.Halving.{at_depth_none, few_mapped, many_mapped}
use Rattle.cas_partition.proofs.Shown.{if_ok_too}
use Rattle.cas_partition.proofs.pieces.+in_halves.Goals as goal

pub returns-then-depth-eq0 : goal.returns-then-depth-eq0
returns-then-depth-eq0 t c = if_ok_too c.of_few.result _ _ (λ f e. e ∙ at_depth_none c.args.depth _ c.if-depth-eq0.true) c.of_few.ensures

pub returns-then-entries-lt16 : goal.returns-then-entries-lt16
returns-then-entries-lt16 t c =
    if_ok_too c.of_few-then-entries-lt16.result _ _ (λ f e. e ∙ few_mapped (lent_in c.args.row.now) c.args.depth c.args.entries.now c.if-entries-lt16.true) c.of_few-then-entries-lt16.ensures

pub returns : goal.returns
returns t c =
    if_ok_too c.joined_both.result _ _
    (λ f e. e ∙ (λ i. both_of (c.in_ok-left.ensures i) (c.in_ok-right.ensures i))
    ∙ many_mapped (lent_in c.args.row.now) c.args.depth c.args.entries.now c.split_at.result.0.now c.split_at.result.1.now c.if-depth-eq0.false c.if-entries-lt16.false c.split_at.ensures.front c.split_at.ensures.back)
    c.joined_both.ensures
