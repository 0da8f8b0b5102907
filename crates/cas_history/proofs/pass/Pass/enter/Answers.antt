use Rattle.std.proofs.Common.{refl}
use Rattle.cas_history.proofs.pass.Pass.enter.Goals as goal

pub enter_picked-requires-clause-picked : goal.enter_picked-requires-clause-picked
enter_picked-requires-clause-picked g c = refl

pub returns : goal.returns
returns g c = c.enter_picked.ensures
