use Rattle.std.proofs.Common.{true, false, sym, ◌∙◌}
use Rattle.cas_merge.proofs.Saying.{row_left as left}
use Rattle.cas_merge.proofs.settling.row_left.Goals as goal

pub returns-then-row_says : goal.returns-then-row_says
returns-then-row_says c = sym (left c.args.r true (sym c.row_says.ensures ∙ c.if-row_says.true))

pub returns-else-row_says : goal.returns-else-row_says
returns-else-row_says c = sym (left c.args.r false (sym c.row_says.ensures ∙ c.if-row_says.false))
