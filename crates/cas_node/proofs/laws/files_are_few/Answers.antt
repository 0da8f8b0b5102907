use Rattle.cas_node.proofs.FilesFew.{files_are_few}
use Rattle.cas_node.proofs.laws.files_are_few.Goals as goal

pub returns : goal.returns
returns g c clock = files_are_few (g.C.Clock.may_give clock)
