use Rattle.cas_widened.proofs.Atoms.{mutations_stay}
use Rattle.cas_widened.proofs.laws.mutations_stay.Goals as goal

pub returns : goal.returns
returns c = mutations_stay
