use Rattle.std.proofs.Common.{sym, ◌∙◌}
use Rattle.cas_writes.proofs.RowLemmas.{change_refused}
use Rattle.cas_writes.proofs.writes.weighed_change.Goals as goal

pub returns-in-Some : goal.returns-in-Some
returns-in-Some c = change_refused c.args.shards c.args.table.now c.args.statement.now c.in-Some.refusal (sym c.in_ok-refusal.ensures ∙ c.in-Some.is)
