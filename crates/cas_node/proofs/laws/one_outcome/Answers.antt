use Rattle.cas_node.proofs.OneOutcome.{no_flush_fits, one_outcome}
use Rattle.cas_node.proofs.laws.one_outcome.Goals as goal

pub returns-clause-one : goal.returns-clause-one
returns-clause-one g c clock = one_outcome (g.C.Clock.may_give clock)

pub returns-clause-none : goal.returns-clause-none
returns-clause-none g c clock = no_flush_fits (g.C.Clock.may_give clock)
