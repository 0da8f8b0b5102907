use Rattle.cas_live.proofs.Walking.{walks_show}
use Rattle.cas_live.proofs.laws.walks_show.Goals as goal

pub returns : goal.returns
returns c = walks_show
