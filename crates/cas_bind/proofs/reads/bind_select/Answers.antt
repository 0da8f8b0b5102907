use Rattle.std.proofs.Common.{sym, ◌∙◌}
use Rattle.cas_bind.proofs.RowLemmas.{select_refused}
use Rattle.cas_bind.proofs.reads.bind_select.Goals as goal

pub returns-in-Some : goal.returns-in-Some
returns-in-Some c = select_refused c.args.shards c.args.table.now c.args.select.now c.in-Some.refusal (sym c.in_ok-refusal.ensures ∙ c.in-Some.is)
