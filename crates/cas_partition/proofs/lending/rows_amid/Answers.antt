use Rattle.std.proofs.Common.{sym, ap, ◌∙◌}
use Rattle.std.specs.Ordering.{is_lt, is_gt}
use Rattle.cas_partition.proofs.RowLists.{row_itself}
use Rattle.cas_partition.proofs.Statics.{none_amid}
use Rattle.cas_partition.proofs.lending.rows_amid.Goals as goal

pub range-requires-else-is_lt : goal.range-requires-else-is_lt
range-requires-else-is_lt c = ap is_gt (row_itself c.args.low.now)

pub returns-else-is_lt : goal.returns-else-is_lt
returns-else-is_lt c =
    c.range-else-is_lt.ensures.between tt ∙ none_amid c.args.low.now c.args.low.now (ap is_lt (row_itself c.args.low.now)) c.args.rows.now.entries
    ∙ sym (none_amid c.args.low.now c.args.high.now (sym (c.is_lt.ensures ∙ ap is_lt c.cmp.ensures) ∙ c.if-is_lt.false) c.args.rows.now.entries)
