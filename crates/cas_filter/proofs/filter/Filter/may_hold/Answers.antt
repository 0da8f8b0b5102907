use Rattle.std.proofs.Common.{sym, ap, ◌∙◌}
use Rattle.cas_filter.specs.Filters.{is_set}
use Rattle.cas_filter.proofs.FilterLaws.{one_answer_more}
use Rattle.cas_filter.proofs.filter.Filter.may_hold.Goals as goal

pub loop-number-preserved : goal.loop-number-preserved
loop-number-preserved c =
    one_answer_more c.args.self.now c.bits-bits.result c.hash-hash.result c.loop-number.number c.loop-number.invariant
    (ap (is_set c.args.self.now) (sym c.probe.ensures.value) ∙ sym c.is_set.ensures ∙ c.if-not-is_set.false)
