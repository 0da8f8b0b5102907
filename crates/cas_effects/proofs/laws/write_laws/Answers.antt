use Rattle.cas_effects.proofs.Written.{write_laws}
use Rattle.cas_effects.proofs.laws.write_laws.Goals as goal

pub returns : goal.returns
returns c = write_laws
