use Rattle.std.proofs.Common.{sym, ap, ◌∙◌}
use Rattle.std.specs.Ordering.{is_lt}
use Rattle.cas_index.proofs.SearchLaws.{got, none_at, late_at, first_at}
use Rattle.cas_index.proofs.search.number_for.Goals as goal

pub returns-in_err-block : goal.returns-in_err-block
returns-in_err-block c =
    none_at c.args.slice.now c.args.blocks.now c.count_begun.result c.saturating_sub-number.result c.from_residual.result c.from_residual.ensures c.requires.ordered
    c.count_begun.ensures.bound c.saturating_sub-number.ensures c.in_err-block.ensures.lookup.3

pub returns-then-is_lt : goal.returns-then-is_lt
returns-then-is_lt c =
    first_at c.args.slice.now c.args.blocks.now c.count_begun.result c.saturating_sub-number.result c.in_ok-block.block.now c.requires.ordered
    c.count_begun.ensures.point c.count_begun.ensures.bound c.saturating_sub-number.ensures
    (ap is_lt (sym c.compare_cuts.ensures) ∙ sym c.is_lt.ensures ∙ c.if-not-is_lt.false)
    (got c.args.blocks.now c.saturating_sub-number.result c.in_ok-block.block.now c.in_ok-block.ensures.lookup.3.0 c.in_ok-block.ensures.lookup.3.1)
    (ap is_lt (sym c.compare_cuts-2.ensures) ∙ sym c.is_lt-2.ensures ∙ c.if-is_lt.true)

pub returns-else-is_lt : goal.returns-else-is_lt
returns-else-is_lt c =
    late_at c.args.slice.now c.args.blocks.now c.count_begun.result c.saturating_sub-number.result c.in_ok-block.block.now c.requires.ordered
    c.count_begun.ensures.point c.count_begun.ensures.bound c.saturating_sub-number.ensures
    (got c.args.blocks.now c.saturating_sub-number.result c.in_ok-block.block.now c.in_ok-block.ensures.lookup.3.0 c.in_ok-block.ensures.lookup.3.1)
    (ap is_lt (sym c.compare_cuts-2.ensures) ∙ sym c.is_lt-2.ensures ∙ c.if-is_lt.false)
