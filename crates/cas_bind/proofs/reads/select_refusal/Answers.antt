use Rattle.std.proofs.Common.{◌≡◌, None, IfOk, subst}
use Rattle.cas_effects.specs.Refusals.{refusal_for}
use Rattle.cas_reasons.specs.RowReasons.{row_reasons}
use Rattle.cas_bind.proofs.reads.select_refusal.Goals as goal

pub returns : goal.returns
returns c = subst (λ s. IfOk c.row_refusal.result (λ r. r ≡ refusal_for (row_reasons c.args.table.now None s))) c.requires c.row_refusal.ensures
