use Rattle.std.proofs.Common.{true, false, sym, ap, ◌∙◌}
use Rattle.cas_merge.specs.Inner.Said.{any_says}
use Rattle.cas_merge.proofs.Saying.{static_left as left}
use Rattle.cas_merge.proofs.settling.static_left.Goals as goal

pub returns-then-any_says : goal.returns-then-any_says
returns-then-any_says c = sym (left c.args.columns true (sym (ap any_says c.as_slice.ensures) ∙ sym c.any_says.ensures ∙ c.if-any_says.true))

pub returns-else-any_says : goal.returns-else-any_says
returns-else-any_says c = sym (left c.args.columns false (sym (ap any_says c.as_slice.ensures) ∙ sym c.any_says.ensures ∙ c.if-any_says.false))
