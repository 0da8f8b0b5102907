use Rattle.std.proofs.Common.{◌≡◌, length}
use Rattle.cas_live.specs.Inner.InOrder.{are_in_order}
use Rattle.cas_live.proofs.in_order.are_in_order.Given as goal

abbrev pub invariant-loop-rest : goal.invariant-loop-rest
invariant-loop-rest l = are_in_order l.columns l.rest ≡ are_in_order l.columns l.mine

abbrev pub decreases-loop-rest : goal.decreases-loop-rest
decreases-loop-rest l = length l.rest
