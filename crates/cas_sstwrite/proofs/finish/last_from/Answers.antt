use Rattle.std.proofs.Common.{Some, sym}
use Rattle.cas_sstwrite.proofs.Finishing.{last_found}
use Rattle.cas_sstwrite.proofs.finish.last_from.Goals as goal

pub returns-in-Some : goal.returns-in-Some
returns-in-Some c = last_found (Some c.args.first.now) c.args.rest.now c.in-Some.last.now (sym c.in-Some.ensures.value)
