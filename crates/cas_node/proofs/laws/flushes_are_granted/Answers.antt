use Rattle.cas_node.proofs.Granting.{flushes_are_granted, flushes_end_well}
use Rattle.cas_node.proofs.laws.flushes_are_granted.Goals as goal

pub returns-clause-ends : goal.returns-clause-ends
returns-clause-ends g c clock = flushes_end_well (g.C.Clock.may_give clock)

pub returns-clause-granted : goal.returns-clause-granted
returns-clause-granted g c clock = flushes_are_granted (g.C.Clock.may_give clock)
