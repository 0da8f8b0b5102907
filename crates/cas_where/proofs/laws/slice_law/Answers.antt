use Rattle.cas_where.proofs.SliceLaws.{slice_law}
use Rattle.cas_where.proofs.laws.slice_law.Goals as goal

pub returns : goal.returns
returns c = slice_law
