use Rattle.std.proofs.Common.{ap, ◌∙◌}
use Rattle.cas_effects.specs.Refusals.{refusal_for}
use Rattle.cas_reasons.proofs.row_reasons.row_refusal.Goals as goal

pub returns : goal.returns
returns c = c.refusal.ensures ∙ ap refusal_for c.in_ok-row_reasons.ensures
