use Rattle.std.proofs.Common.{◌≡◌, length}
use Rattle.cas_live.specs.Inner.InOrder.{are_of_all}
use Rattle.cas_live.proofs.in_order.are_of_all.Given as goal

abbrev pub invariant-loop-rest : goal.invariant-loop-rest
invariant-loop-rest l = are_of_all l.rest ≡ are_of_all l.atoms

abbrev pub decreases-loop-rest : goal.decreases-loop-rest
decreases-loop-rest l = length l.rest
