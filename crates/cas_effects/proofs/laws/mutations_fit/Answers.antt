use Rattle.cas_effects.proofs.Fitting.{mutations_fit}
use Rattle.cas_effects.proofs.laws.mutations_fit.Goals as goal

pub returns : goal.returns
returns c = mutations_fit
