use Rattle.cas_node.proofs.MemtablesFit.{begins_little, few_have_files, memtables_fit}
use Rattle.cas_node.proofs.laws.memtables_fit.Goals as goal

pub returns-clause-begin : goal.returns-clause-begin
returns-clause-begin g c = begins_little

pub returns-clause-fit : goal.returns-clause-fit
returns-clause-fit g c clock kind = memtables_fit c.little_is_never_too_much.ensures kind (g.C.Clock.may_give clock)

pub returns-clause-few : goal.returns-clause-few
returns-clause-few g c clock kind = few_have_files kind (g.C.Clock.may_give clock)
