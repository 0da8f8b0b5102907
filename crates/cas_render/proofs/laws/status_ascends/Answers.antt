use Rattle.cas_render.proofs.InOrder.{numbers_ascend, status_has}
use Rattle.cas_render.proofs.laws.status_ascends.Goals as goal

pub returns-clause-tables : goal.returns-clause-tables
returns-clause-tables c = status_has

pub returns-clause-files : goal.returns-clause-files
returns-clause-files c = numbers_ascend
