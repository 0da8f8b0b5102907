use Rattle.std.proofs.Common.{arith}
use Rattle.cas_sstwrite.proofs.Finishing.{ends_at}
use Rattle.cas_sstwrite.proofs.finish.ends.Goals as goal

pub returns-in-len1-up-clause-some : goal.returns-in-len1-up-clause-some
returns-in-len1-up-clause-some c =
    ends_at c.args.entries.now c.first-item.result c.last_from.result.now (omega (arith, c.in-len1-up.len_at_least)) c.first-item.is c.requires c.last_from.ensures
