use Rattle.cas_bounds.proofs.CutLaws.{own_places}
use Rattle.cas_bounds.proofs.laws.own_places.Goals as goal

pub returns : goal.returns
returns c = own_places
