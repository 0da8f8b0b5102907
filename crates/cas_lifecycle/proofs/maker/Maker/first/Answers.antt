use Rattle.std.proofs.Common.{sym, subst}
use Rattle.cas_lifecycle.specs.Inner.Homes.{Homely}
use Rattle.cas_lifecycle.proofs.Homes.{homely_first}
use Rattle.cas_lifecycle.proofs.maker.Maker.first.Goals as goal

pub invariant_of-result : goal.invariant_of-result
invariant_of-result g c = record { home = subst (Homely 0 0) (sym c.named.ensures) homely_first }
