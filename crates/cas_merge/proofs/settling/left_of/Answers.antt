use Rattle.std.proofs.Common.{sym, ◌∙◌}
use Rattle.cas_merge.proofs.Saying.{left_whole}
use Rattle.cas_merge.proofs.settling.left_of.Goals as goal

pub returns-then-is_left_whole : goal.returns-then-is_left_whole
returns-then-is_left_whole c = left_whole c.args.top c.args.now c.args.f (sym c.is_left_whole.ensures ∙ c.if-is_left_whole.true)
