use Rattle.std.proofs.Common.{ℕ, List, sym, subst}
use Rattle.cas_history.specs.Log.{Has}
use Rattle.cas_room.proofs.changing.enter.Goals as goal

pub returns-clause-retires : goal.returns-clause-retires
returns-clause-retires g c s k few has = c.install.ensures.retires s k few (subst (λ (l : List ℕ). Has l k) (sym c.as_slice.ensures) has)
