use Rattle.std.proofs.Common.{ap}
use Rattle.cas_sessions.proofs.FlushMaking.{next_after}
use Rattle.cas_sessions.proofs.node.Node.begin_file.Goals as goal

pub returns-in-Err-clause-next : goal.returns-in-Err-clause-next
returns-in-Err-clause-next g c =
    next_after _ _ _ _ _ _ c.fresh.ensures.outcome (λ free. (c.fresh.ensures.drawn free).0) (λ full. ap (λ r. r.numbers.last) (c.fresh.ensures.full full).0)
