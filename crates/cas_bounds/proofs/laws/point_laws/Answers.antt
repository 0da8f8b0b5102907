use Rattle.cas_bounds.proofs.CutLaws.{point_laws}
use Rattle.cas_bounds.proofs.laws.point_laws.Goals as goal

pub returns : goal.returns
returns c = point_laws
